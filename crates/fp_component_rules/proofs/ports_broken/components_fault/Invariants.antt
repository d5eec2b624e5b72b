use Rattle.fp_base.specs.Least.{InFirst, IsLeast}
use Rattle.fp_component_rules.specs.PortBroken.{ComponentBroken}
use Rattle.fp_component_rules.proofs.ports_broken.components_fault.Given as goal

abbrev pub invariant-loop-component : goal.invariant-loop-component
invariant-loop-component l = IsLeast (InFirst l.component-index (ComponentBroken l.definitions) l.components) l.first
