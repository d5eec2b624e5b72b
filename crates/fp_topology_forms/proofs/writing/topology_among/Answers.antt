use Rattle.std.proofs.Common.{[], ◌∷◌, sym, ap, ◌∙◌, subst}
use Rattle.fp_meaning.specs.Read.{read}
use Rattle.fp_meaning.specs.Sites as whole
use Rattle.fp_meaning.specs.Sites.{ModelDef}
use Rattle.fp_meaning.specs.Layout.{model_own_items}
use Rattle.fp_meaning.specs.Names.{Path}
use Rattle.fp_type_forms.specs.Resolved.{AreResolved}
use Rattle.fp_type_forms.specs.Written.{AllAt}
use Rattle.fp_component_forms.specs.Written.{scoped}
use Rattle.fp_topology_forms.specs.Written.{TopologyIs, topology_in}
use Rattle.fp_topology_forms.proofs.writing.topology_among.Goals as goal

pub returns-in-Machine : goal.returns-in-Machine
returns-in-Machine c source ready h =
    subst (λ (m : ModelDef). AllAt (λ position. TopologyIs source) 0 (topology_in c.args.declared.now.scope m) []) (sym (sym c.definition.ensures ∙ ap read c.in-Machine.is)) tt

pub returns-in-Component : goal.returns-in-Component
returns-in-Component c source ready h =
    subst (λ (m : ModelDef). AllAt (λ position. TopologyIs source) 0 (topology_in c.args.declared.now.scope m) []) (sym (sym c.definition.ensures ∙ ap read c.in-Component.is)) tt

pub returns-in-Interface : goal.returns-in-Interface
returns-in-Interface c source ready h =
    subst (λ (m : ModelDef). AllAt (λ position. TopologyIs source) 0 (topology_in c.args.declared.now.scope m) []) (sym (sym c.definition.ensures ∙ ap read c.in-Interface.is)) tt

pub returns-in-Instance : goal.returns-in-Instance
returns-in-Instance c source ready h =
    subst (λ (m : ModelDef). AllAt (λ position. TopologyIs source) 0 (topology_in c.args.declared.now.scope m) []) (sym (sym c.definition.ensures ∙ ap read c.in-Instance.is)) tt

pub returns-in_ok-one-in-Topology : goal.returns-in_ok-one-in-Topology
returns-in_ok-one-in-Topology c source ready h =
    let made = c.in_ok-one-in-Topology.ensures source ready in
    let d = c.in-Topology.topology.now in
    let right = subst (λ (x : Path). AreResolved source c.args.marks.now c.args.resolutions.now (model_own_items x (whole.topology d)) c.args.start → TopologyIs source (scoped x d) c.in_ok-one-in-Topology.one) c.scope-scope.ensures made in
    subst (λ (m : ModelDef). AreResolved source c.args.marks.now c.args.resolutions.now (model_own_items c.args.declared.now.scope m) c.args.start → AllAt (λ position. TopologyIs source) 0 (topology_in c.args.declared.now.scope m) (c.in_ok-one-in-Topology.one ∷ [])) (sym (sym c.definition.ensures ∙ ap read c.in-Topology.is))
    (λ all. (right all, tt)) h
