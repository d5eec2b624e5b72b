use Rattle.fp_base.specs.Least.{InFirst, IsLeast}
use Rattle.fp_topologies.specs.Broken.{TopologyBroken}
use Rattle.fp_topologies.proofs.faults.topologies_fault.Given as goal

abbrev pub invariant-loop-at : goal.invariant-loop-at
invariant-loop-at l = IsLeast (InFirst l.at (TopologyBroken l.index.ports l.index.components l.index.instances l.written l.closures) l.written) l.first
