use Rattle.fp_topologies.specs.Filled.{AreFilled}
use Rattle.fp_topologies.proofs.filling.filled.Given as goal

abbrev pub invariant-order : goal.invariant-order
invariant-order l = AreFilled l.written l.sorted.order.items l.at l.closures.items
