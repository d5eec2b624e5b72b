use Rattle.std.proofs.Common.{◌≡◌, ℕ, ◌-◌, ◌<◌, ◌≤◌, length, slice_index_or, false}
use Rattle.fp_plant.specs.Planted.{Rests}
use Rattle.fp_rounds.specs.Going.{GoesOn}
use Rattle.fp_rounds.proofs.running.try_each.Given as goal

abbrev pub invariant-loop-at : goal.invariant-loop-at
invariant-loop-at g l =
    (length l.workers ≡ length l.initial.workers)
    × ((i : ℕ) (d : _) → i < l.at → GoesOn l.plant (slice_index_or l.initial.workers i d).hand (slice_index_or l.workers i d).hand)
    × ((i : ℕ) (d : _) → l.at ≤ i → i < length l.initial.workers → slice_index_or l.workers i d ≡ slice_index_or l.initial.workers i d)
    × (l.any ≡ false → (i : ℕ) (d : _) → i < l.at → Rests (slice_index_or l.workers i d).hand)

abbrev pub decreases-loop-at : goal.decreases-loop-at
decreases-loop-at g l = length l.initial.workers - l.at
