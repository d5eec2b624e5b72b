use Rattle.std.proofs.Common.{[], sym, ap, ◌∙◌, subst}
use Rattle.fp_meaning.specs.Read.{read}
use Rattle.fp_meaning.specs.Sites.{ModelDef}
use Rattle.fp_type_forms.specs.Written.{AllAt}
use Rattle.fp_component_forms.specs.Written.{InterfaceIs, interface_in}
use Rattle.fp_component_forms.proofs.writing.interface_in.Goals as goal

pub returns-in-Machine : goal.returns-in-Machine
returns-in-Machine c source ready h =
    subst (λ (m : ModelDef). AllAt (λ position. InterfaceIs source) 0 (interface_in c.args.declared.now.scope m) []) (sym (sym c.definition.ensures ∙ ap read c.in-Machine.is)) tt

pub returns-in-Component : goal.returns-in-Component
returns-in-Component c source ready h =
    subst (λ (m : ModelDef). AllAt (λ position. InterfaceIs source) 0 (interface_in c.args.declared.now.scope m) []) (sym (sym c.definition.ensures ∙ ap read c.in-Component.is)) tt

pub returns-in-Instance : goal.returns-in-Instance
returns-in-Instance c source ready h =
    subst (λ (m : ModelDef). AllAt (λ position. InterfaceIs source) 0 (interface_in c.args.declared.now.scope m) []) (sym (sym c.definition.ensures ∙ ap read c.in-Instance.is)) tt

pub returns-in-Topology : goal.returns-in-Topology
returns-in-Topology c source ready h =
    subst (λ (m : ModelDef). AllAt (λ position. InterfaceIs source) 0 (interface_in c.args.declared.now.scope m) []) (sym (sym c.definition.ensures ∙ ap read c.in-Topology.is)) tt
