use Rattle.fp_base.specs.Least.{InFirst, IsLeast}
use Rattle.fp_topologies.specs.Broken.{PatternBroken}
use Rattle.fp_topologies.proofs.rule_patterns.patterns_fault.Given as goal

abbrev pub invariant-loop-pattern : goal.invariant-loop-pattern
invariant-loop-pattern l = IsLeast (InFirst l.pattern-index (PatternBroken l.index.ports l.index.components l.index.instances) l.patterns) l.first
