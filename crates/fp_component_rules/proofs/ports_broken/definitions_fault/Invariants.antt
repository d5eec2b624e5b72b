use Rattle.fp_base.specs.Least.{InFirst, IsLeast}
use Rattle.fp_component_rules.specs.PortBroken.{BrokenPortDef}
use Rattle.fp_component_rules.proofs.ports_broken.definitions_fault.Given as goal

abbrev pub invariant-loop-definition : goal.invariant-loop-definition
invariant-loop-definition l = IsLeast (InFirst l.definition-index BrokenPortDef l.definitions) l.first
