use Rattle.std.proofs.Common.{take}
use Rattle.fp_reach.specs.Rings.{Tells, IsNumbered}
use Rattle.fp_reach.proofs.rings.number_all.Given as goal

abbrev pub invariant-loop-edge : goal.invariant-loop-edge
invariant-loop-edge g l = Tells g.K.Ord.cmp → IsNumbered g.K.Ord.cmp (take l.edge-index l.edges) l.graph.numbers l.graph.rows.items
