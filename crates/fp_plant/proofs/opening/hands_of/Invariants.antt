use Rattle.std.specs.Vec.Iter.{into_iter_items}
use Rattle.fp_plant.proofs.Beginning.{AreHandedOut}
use Rattle.fp_plant.proofs.opening.hands_of.Given as goal

abbrev pub invariant-loop-passes : goal.invariant-loop-passes
invariant-loop-passes l = AreHandedOut l.tables l.program l.fn.rows.items l.number (into_iter_items l.passes-iterator) l.hands
