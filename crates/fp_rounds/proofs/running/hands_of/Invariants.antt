use Rattle.std.proofs.Common.{◌≡◌, ◌≤◌, ◌+◌, ◌++◌, length, map}
use Rattle.std.specs.Vec.{vec_capacity}
use Rattle.std.specs.Vec.Iter.{into_iter_items}
use Rattle.fp_rounds.proofs.running.hands_of.Given as goal

abbrev pub invariant-loop-worker : goal.invariant-loop-worker
invariant-loop-worker l =
    (goal.iterator-loop-worker).can_next l.worker-iterator ×
    (goal.iterator-loop-worker).is_finite l.worker-iterator
    × (length l.back.items + length (into_iter_items l.worker-iterator) ≤ vec_capacity l.back)
    × (l.back.items ++ map (λ w. w.hand) (into_iter_items l.worker-iterator) ≡ map (λ w. w.hand) l.fn.workers.items)
