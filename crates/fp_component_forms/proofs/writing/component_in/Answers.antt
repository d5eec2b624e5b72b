use Rattle.std.proofs.Common.{[], ◌∷◌, flat_map, sym, ap, ◌∙◌, subst}
use Rattle.fp_meaning.specs.Read.{read}
use Rattle.fp_meaning.specs.Sites as whole
use Rattle.fp_meaning.specs.Sites.{ModelDef}
use Rattle.fp_meaning.specs.Layout.{model_own_items, component_scope}
use Rattle.fp_meaning.specs.Names.{Path}
use Rattle.fp_type_forms.specs.Resolved.{AreResolved}
use Rattle.fp_type_forms.specs.Written.{AllAt}
use Rattle.fp_part_values.specs.Names.{part_names}
use Rattle.fp_component_forms.specs.Written.{AllHaveTypes, ComponentIs, ModelNamesStand, component_in, scoped}
use Rattle.fp_component_forms.proofs.writing.component_in.Goals as goal

pub returns-in-Machine : goal.returns-in-Machine
returns-in-Machine c source ready named h =
    subst (λ (m : ModelDef). AllAt (λ position. ComponentIs source) 0 (component_in c.args.declared.now.scope m) []) (sym (sym c.definition.ensures ∙ ap read c.in-Machine.is)) tt

pub returns-in_ok-one-in-Component : goal.returns-in_ok-one-in-Component
returns-in_ok-one-in-Component c source ready named h =
    let made = c.in_ok-one-in-Component.ensures source ready in
    let d = c.in-Component.component.now in
    let right = subst (λ (x : Path). AreResolved source c.args.marks.now c.args.resolutions.now (model_own_items x (whole.component d)) c.args.start → AllHaveTypes source (component_scope x d) (flat_map part_names d.parts) → ComponentIs source (scoped x d) c.in_ok-one-in-Component.one) c.scope-scope.ensures made in
    subst (λ (m : ModelDef). ModelNamesStand source c.args.declared.now.scope m → AreResolved source c.args.marks.now c.args.resolutions.now (model_own_items c.args.declared.now.scope m) c.args.start → AllAt (λ position. ComponentIs source) 0 (component_in c.args.declared.now.scope m) (c.in_ok-one-in-Component.one ∷ [])) (sym (sym c.definition.ensures ∙ ap read c.in-Component.is))
    (λ has all. (right all has, tt)) named h

pub returns-in-Interface : goal.returns-in-Interface
returns-in-Interface c source ready named h =
    subst (λ (m : ModelDef). AllAt (λ position. ComponentIs source) 0 (component_in c.args.declared.now.scope m) []) (sym (sym c.definition.ensures ∙ ap read c.in-Interface.is)) tt

pub returns-in-Instance : goal.returns-in-Instance
returns-in-Instance c source ready named h =
    subst (λ (m : ModelDef). AllAt (λ position. ComponentIs source) 0 (component_in c.args.declared.now.scope m) []) (sym (sym c.definition.ensures ∙ ap read c.in-Instance.is)) tt

pub returns-in-Topology : goal.returns-in-Topology
returns-in-Topology c source ready named h =
    subst (λ (m : ModelDef). AllAt (λ position. ComponentIs source) 0 (component_in c.args.declared.now.scope m) []) (sym (sym c.definition.ensures ∙ ap read c.in-Topology.is)) tt
