use Rattle.fp_topologies.proofs.Placing.{ArePlaced}
use Rattle.fp_topologies.proofs.resolving.resolved.Given as goal

abbrev pub invariant-places : goal.invariant-places
invariant-places l = ArePlaced l.components l.instances l.written l.closures l.joined l.at l.topologies
