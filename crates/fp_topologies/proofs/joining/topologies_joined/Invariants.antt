use Rattle.fp_topologies.specs.Joined.{AreJoinedTo}
use Rattle.fp_topologies.proofs.joining.topologies_joined.Given as goal

abbrev pub invariant-order : goal.invariant-order
invariant-order l = AreJoinedTo l.written l.index.ports l.index.components l.index.instances l.imported.closures.items l.imported.order.items l.at l.joined.items
