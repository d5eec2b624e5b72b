use Rattle.std.specs.Vec.Iter.{into_iter_items}
use Rattle.fp_plant.proofs.Ending.{AreTaken}
use Rattle.fp_plant.proofs.closing.take_hands.Given as goal

abbrev pub invariant-loop-hand : goal.invariant-loop-hand
invariant-loop-hand l = AreTaken l.fn.columns.items l.fn.hands (into_iter_items l.hand-iterator) l.traces l.columns.items
