use Rattle.std.proofs.Common.{[], ◌∷◌, None, Some, sym, ap, ◌∙◌, subst}
use Rattle.fp_tree.specs.declared.source.Source.{Source}
use Rattle.fp_meaning.specs.Layout.{behavior_items}
use Rattle.fp_meaning.specs.Names.{Path, in_optional}
use Rattle.fp_meaning.specs.Read.{read}
use Rattle.fp_meaning.specs.Sites.{component, instance, interface, machine, topology}
use Rattle.fp_type_forms.specs.Resolved.{AreResolved}
use Rattle.fp_component_forms.specs.Written.{scoped}
use Rattle.fp_source_parts.specs.MachineBuilt.{IsMachine}
use Rattle.fp_source_parts.proofs.Giving.{model_gives}
use Rattle.fp_source_parts.proofs.building.declared_machine.Goals as goal

pub returns-in_ok-one-in-Machine-clause-made : goal.returns-in_ok-one-in-Machine-clause-made
returns-in_ok-one-in-Machine-clause-made c =
    let d = c.in-Machine.machine.now in
    model_gives c.args.marks.now c.args.resolutions.now c.args.start c.args.declared.now.scope c.args.declared.now.definition (machine d) (Some c.in_ok-one-in-Machine.one) (sym c.definition.ensures ∙ ap read c.in-Machine.is)
    (λ source h. (subst (λ (x : Path). AreResolved source c.args.marks.now c.args.resolutions.now (in_optional (behavior_items x) d.behavior) c.args.start → IsMachine source (scoped x d) c.in_ok-one-in-Machine.one) c.scope.ensures (c.in_ok-one-in-Machine.ensures.made source) h, tt))

pub returns-in-Component-clause-made : goal.returns-in-Component-clause-made
returns-in-Component-clause-made c =
    model_gives c.args.marks.now c.args.resolutions.now c.args.start c.args.declared.now.scope c.args.declared.now.definition (component c.in-Component.field-0.now) None (sym c.definition.ensures ∙ ap read c.in-Component.is) (λ source h. tt)

pub returns-in-Interface-clause-made : goal.returns-in-Interface-clause-made
returns-in-Interface-clause-made c =
    model_gives c.args.marks.now c.args.resolutions.now c.args.start c.args.declared.now.scope c.args.declared.now.definition (interface c.in-Interface.field-0.now) None (sym c.definition.ensures ∙ ap read c.in-Interface.is) (λ source h. tt)

pub returns-in-Instance-clause-made : goal.returns-in-Instance-clause-made
returns-in-Instance-clause-made c =
    model_gives c.args.marks.now c.args.resolutions.now c.args.start c.args.declared.now.scope c.args.declared.now.definition (instance c.in-Instance.field-0.now) None (sym c.definition.ensures ∙ ap read c.in-Instance.is) (λ source h. tt)

pub returns-in-Topology-clause-made : goal.returns-in-Topology-clause-made
returns-in-Topology-clause-made c =
    model_gives c.args.marks.now c.args.resolutions.now c.args.start c.args.declared.now.scope c.args.declared.now.definition (topology c.in-Topology.field-0.now) None (sym c.definition.ensures ∙ ap read c.in-Topology.is) (λ source h. tt)
