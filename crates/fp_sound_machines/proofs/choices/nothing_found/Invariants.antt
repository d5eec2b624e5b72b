use Rattle.std.proofs.Common.{◌≡◌, ℕ, None, length}
use Rattle.fp_sound_machines.specs.Behind.{found_at}
use Rattle.fp_sound_machines.proofs.choices.nothing_found.Given as goal

abbrev pub invariant-loop : goal.invariant-loop
invariant-loop l = record { long : length l.found.items ≡ l.counter; none : (v : ℕ) → found_at l.found.items v ≡ None }
