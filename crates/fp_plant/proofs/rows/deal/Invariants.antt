use Rattle.std.specs.Vec.Iter.{into_iter_items}
use Rattle.fp_plant.proofs.Dealing.{IsDealt}
use Rattle.fp_plant.proofs.rows.deal.Given as goal

abbrev pub invariant-loop-item : goal.invariant-loop-item
invariant-loop-item g l = IsDealt l.fn.rows.items l.fn.items l.at (into_iter_items l.item-iterator) l.rows.items
