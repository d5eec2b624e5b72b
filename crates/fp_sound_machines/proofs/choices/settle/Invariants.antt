use Rattle.std.proofs.Common.{◌≡◌, ℕ, ◌+◌, ◌-◌, ◌*◌, ◌≤◌, true, length, is_some}
use Rattle.fp_sound_machines.specs.Behind.{found_at, found_count, AreBehind, IsPath, Begins}
use Rattle.fp_sound_machines.proofs.choices.settle.Given as goal

abbrev pub invariant-loop-choice : goal.invariant-loop-choice
invariant-loop-choice l = record {
  known : AreBehind l.types l.machine l.found.items;
  path : IsPath l.machine.vertices l.found.items l.path.items;
  short : length l.path.items ≤ length l.machine.vertices + 1;
  begins : Begins l.found.items l.start l.path.items;
  kept : (v : ℕ) → is_some (found_at l.initial.found.items v) ≡ true → is_some (found_at l.found.items v) ≡ true;
}

abbrev pub decreases-loop-choice : goal.decreases-loop-choice
decreases-loop-choice l =
    (length l.machine.vertices - found_count l.found.items) * (length l.machine.vertices + 2) + (length l.machine.vertices + 1 - length l.path.items)
