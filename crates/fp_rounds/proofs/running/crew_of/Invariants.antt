use Rattle.std.proofs.Common.{◌≡◌, ◌≤◌, ◌+◌, ◌++◌, length, map}
use Rattle.std.specs.Vec.{vec_capacity}
use Rattle.std.specs.Vec.Iter.{into_iter_items}
use Rattle.fp_rounds.proofs.running.crew_of.Given as goal

abbrev pub invariant-loop-hand : goal.invariant-loop-hand
invariant-loop-hand l =
    (goal.iterator-loop-hand).can_next l.hand-iterator ×
    (goal.iterator-loop-hand).is_finite l.hand-iterator
    × (length l.workers.items + length (into_iter_items l.hand-iterator) ≤ vec_capacity l.workers)
    × (map (λ w. w.hand) l.workers.items ++ into_iter_items l.hand-iterator ≡ l.fn.hands)
