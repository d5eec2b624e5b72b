use Rattle.fp_base.specs.Least.{InFirst, IsLeast}
use Rattle.fp_topologies.specs.Broken.{TargetBroken}
use Rattle.fp_topologies.proofs.rule_patterns.targets_fault.Given as goal

abbrev pub invariant-loop-target : goal.invariant-loop-target
invariant-loop-target l = IsLeast (InFirst l.target-index (TargetBroken l.index.ports l.index.components l.index.instances l.kind) l.targets) l.first
