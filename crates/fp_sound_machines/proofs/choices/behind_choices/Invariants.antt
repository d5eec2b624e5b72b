use Rattle.std.proofs.Common.{◌≡◌, ℕ, ◌<◌, false}
use Rattle.fp_sound_machines.specs.Behind.{is_open, AreBehind}
use Rattle.fp_sound_machines.proofs.choices.behind_choices.Given as goal

abbrev pub invariant-loop-choice : goal.invariant-loop-choice
invariant-loop-choice l = record {
  known : AreBehind l.types l.machine l.found.items;
  closed : (v : ℕ) → v < l.choice → is_open l.machine.vertices l.found.items v ≡ false;
}
