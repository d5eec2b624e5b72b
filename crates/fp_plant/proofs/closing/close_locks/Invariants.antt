use Rattle.std.specs.Vec.Iter.{into_iter_items}
use Rattle.fp_plant.proofs.Ending.{AreClosed}
use Rattle.fp_plant.proofs.closing.close_locks.Given as goal

abbrev pub invariant-loop-lock : goal.invariant-loop-lock
invariant-loop-lock l = AreClosed l.fn.locks.items l.fn.columns.items (into_iter_items l.lock-iterator) (into_iter_items l.rest) l.histories
