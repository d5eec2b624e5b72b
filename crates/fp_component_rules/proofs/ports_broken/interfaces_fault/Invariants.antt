use Rattle.fp_base.specs.Least.{InFirst, IsLeast}
use Rattle.fp_component_rules.specs.PortBroken.{InterfaceBroken}
use Rattle.fp_component_rules.proofs.ports_broken.interfaces_fault.Given as goal

abbrev pub invariant-loop-interface : goal.invariant-loop-interface
invariant-loop-interface l = IsLeast (InFirst l.interface-index (InterfaceBroken l.definitions) l.interfaces) l.first
