use Rattle.std.proofs.Common.{take}
use Rattle.fp_graph.specs.Visits.{Among}
use Rattle.fp_reach.specs.declared.vertex.Vertex.{Vertex}
use Rattle.fp_reach.proofs.Firsts.{IsAction}
use Rattle.fp_reach.proofs.cycles.first_action.Given as goal

abbrev pub invariant-loop-at : goal.invariant-loop-at
invariant-loop-at l = (y : Vertex) → IsAction y → Among (take l.at l.vertices) y → ⊥
