use Rattle.std.proofs.Common.{◌∙◌, List, None, flat_map, sym, ap, subst}
use Rattle.fp_base.proofs.Calculus.{least_none}
use Rattle.fp_base.specs.Least.{InSome, IsLeast}
use Rattle.fp_tree.specs.declared.component.Part.{Part}
use Rattle.fp_meaning.specs.Layout.{component_scope, own_items}
use Rattle.fp_meaning.specs.Read.{read}
use Rattle.fp_meaning.specs.Sites.{component, instance, interface, machine, topology}
use Rattle.fp_type_forms.specs.Resolved.{Takes}
use Rattle.fp_type_forms.proofs.Taking.{taken_all}
use Rattle.fp_part_values.specs.Broken.{BrokenByPart}
use Rattle.fp_part_values.proofs.Passed.{declared_as}
use Rattle.fp_part_values.proofs.checking.declared_fault.Goals as goal

pub returns-in-Machine : goal.returns-in-Machine
returns-in-Machine c source =
    let d = c.args.declared.now in
    declared_as source c.args.marks.now c.args.resolutions.now c.args.types.now d.scope d.definition (machine c.in-Machine.field-0.now) c.args.start None (sym c.definition.ensures ∙ ap read c.in-Machine.is) (λ h. least_none (λ f x. x))

pub returns-in-Interface : goal.returns-in-Interface
returns-in-Interface c source =
    let d = c.args.declared.now in
    declared_as source c.args.marks.now c.args.resolutions.now c.args.types.now d.scope d.definition (interface c.in-Interface.field-0.now) c.args.start None (sym c.definition.ensures ∙ ap read c.in-Interface.is) (λ h. least_none (λ f x. x))

pub returns-in-Instance : goal.returns-in-Instance
returns-in-Instance c source =
    let d = c.args.declared.now in
    declared_as source c.args.marks.now c.args.resolutions.now c.args.types.now d.scope d.definition (instance c.in-Instance.field-0.now) c.args.start None (sym c.definition.ensures ∙ ap read c.in-Instance.is) (λ h. least_none (λ f x. x))

pub returns-in-Topology : goal.returns-in-Topology
returns-in-Topology c source =
    let d = c.args.declared.now in
    declared_as source c.args.marks.now c.args.resolutions.now c.args.types.now d.scope d.definition (topology c.in-Topology.field-0.now) c.args.start None (sym c.definition.ensures ∙ ap read c.in-Topology.is) (λ h. least_none (λ f x. x))

pub returns-in-Component : goal.returns-in-Component
returns-in-Component c source =
    let d = c.args.declared.now in
    let x = c.in-Component.component.now in
    let ws = c.args.types.now in
    let marks = c.args.marks.now in
    let rs = c.args.resolutions.now in
    let scope = component_scope d.scope x in
    declared_as source marks rs ws d.scope d.definition (component x) c.args.start c.parts_fault.result (sym c.definition.ensures ∙ ap read c.in-Component.is)
    (taken_all source marks rs (flat_map (own_items scope) x.parts) c.args.start c.parts_fault.new.next
    (subst (λ (ps : List Part). Takes source marks rs (flat_map (own_items scope) ps) c.args.start c.parts_fault.new.next (IsLeast (InSome (λ k. BrokenByPart source ws scope) ps) c.parts_fault.result)) c.as_slice-parts.ensures
    (c.parts_fault.ensures source scope)))
