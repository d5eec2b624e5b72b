use Rattle.std.proofs.Common.{None, ap, subst}
use Rattle.fp_base.proofs.Calculus.{least_none}
use Rattle.fp_base.proofs.Options.{if_ok_then}
use Rattle.fp_meaning.specs.Read.{read}
use Rattle.fp_meaning.specs.Sites.{ModelDef, component, instance, interface, machine, topology}
use Rattle.fp_source_parts.specs.Ordered.{IsOrderedModel}
use Rattle.fp_source_parts.proofs.MachineLeast.{model_by}
use Rattle.fp_source_parts.proofs.faults.definition_fault.Goals as goal

pub fault_in-requires : goal.fault_in-requires
fault_in-requires c = let placed : IsOrderedModel (machine c.in-Machine.machine.now) = subst (λ (m : ModelDef). IsOrderedModel m) (ap read c.in-Machine.is) c.requires in placed.in_order

pub returns-in-Machine : goal.returns-in-Machine
returns-in-Machine c =
    if_ok_then c.fault_in.result _ _
    (λ o l source scope. model_by c.args.types.now source c.args.marks.now c.args.resolutions.now c.args.start scope (read c.args.definition) (machine c.in-Machine.machine.now) o (ap read c.in-Machine.is) (l source scope))
    c.fault_in.ensures

pub returns-in-Component : goal.returns-in-Component
returns-in-Component c source scope =
    model_by c.args.types.now source c.args.marks.now c.args.resolutions.now c.args.start scope (read c.args.definition) (component c.in-Component.field-0.now) None (ap read c.in-Component.is) (λ h. least_none (λ f b. b))

pub returns-in-Interface : goal.returns-in-Interface
returns-in-Interface c source scope =
    model_by c.args.types.now source c.args.marks.now c.args.resolutions.now c.args.start scope (read c.args.definition) (interface c.in-Interface.field-0.now) None (ap read c.in-Interface.is) (λ h. least_none (λ f b. b))

pub returns-in-Instance : goal.returns-in-Instance
returns-in-Instance c source scope =
    model_by c.args.types.now source c.args.marks.now c.args.resolutions.now c.args.start scope (read c.args.definition) (instance c.in-Instance.field-0.now) None (ap read c.in-Instance.is) (λ h. least_none (λ f b. b))

pub returns-in-Topology : goal.returns-in-Topology
returns-in-Topology c source scope =
    model_by c.args.types.now source c.args.marks.now c.args.resolutions.now c.args.start scope (read c.args.definition) (topology c.in-Topology.field-0.now) None (ap read c.in-Topology.is) (λ h. least_none (λ f b. b))
