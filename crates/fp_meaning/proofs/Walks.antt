-- What a member, an array and a struct give in a walk, from what is in them.
use Rattle.std.proofs.Common.{◌≡◌, List, [], ◌∷◌, ◌++◌, flat_map, sym, ap, ◌∙◌}
use Rattle.std.proofs.lemmas.List.Folds.{flat_map-map}
use Rattle.fp_tree.specs.declared.definition.Def.{Def}
use Rattle.fp_tree.specs.declared.machine.Machine.{Machine}
use Rattle.fp_tree.specs.declared.component.Component.{Component}
use Rattle.fp_tree.specs.declared.component.Interface.{Interface}
use Rattle.fp_tree.specs.declared.instance.Instance.{Instance}
use Rattle.fp_tree.specs.declared.topology.Topology.{Topology}
use Rattle.fp_tree.specs.declared.member.Include.{Include}
use Rattle.fp_tree.specs.declared.member.Locate.{Locate}
use Rattle.fp_tree.specs.declared.member.Member.{fold-Member, fold-roll-Member}
use Rattle.fp_tree.specs.declared.member.Member.TheOpen as member
use Rattle.fp_tree.specs.declared.member.Member.TheVariants as node
use Rattle.fp_tree.specs.declared.member.Module.{Module as Opened, out-Module, fold_out-Module}
use Rattle.fp_tree.specs.declared.expression.Expr.{Expr}
use Rattle.fp_tree.specs.declared.expression.Assignment.{Assignment}
use Rattle.fp_tree.specs.declared.expression.Form.{fold-roll-Form}
use Rattle.fp_tree.specs.declared.expression.Form.TheOpen as form
use Rattle.fp_tree.specs.declared.expression.Form.TheVariants.{Array, rolls-Array, Struct, rolls-Struct}
use Rattle.fp_meaning.specs.declared.names.Mention.{Mention}
use Rattle.fp_meaning.specs.declared.item.Item.{Item}
use Rattle.fp_meaning.specs.Layout.{member_step, module_step, in_member, in_members, items_in, machine_items, component_items, interface_items, instance_items, topology_items}
use Rattle.fp_meaning.specs.Names.{Path, form_step, assignment_step, expression_step, in_form, in_expression, in_assignment}

-- a module gives what its members give behind its name
pub module_gives : (scope : Path) (m : Opened) → in_member scope (node.Module m) ≡ in_members (scope ++ (out-Module m).name.text ∷ []) (out-Module m).members
module_gives scope m =
    ap (in_member scope) (sym (node.rolls-Module m))
    ∙ ap (λ (f : Path → List Item). f scope) (fold-roll-Member (Path → List Item) (Path → List Item) member_step module_step (member.Module m))
    ∙ ap (λ (f : Path → List Item). f scope) (fold_out-Module (Path → List Item) (Path → List Item) member_step module_step m)
    ∙ flat_map-map (λ (inner : Path → List Item). inner (scope ++ (out-Module m).name.text ∷ []))
    (fold-Member (Path → List Item) (Path → List Item) member_step module_step) (out-Module m).members

-- a definition gives its items
pub definition_gives : (scope : Path) (d : Def) → in_member scope (node.Def d) ≡ items_in scope d
definition_gives scope d =
    ap (in_member scope) (sym (node.rolls-Def d))
    ∙ ap (λ (f : Path → List Item). f scope) (fold-roll-Member (Path → List Item) (Path → List Item) member_step module_step (member.Def d))

-- so do a machine, a component, an interface, an instance and a topology
pub machine_gives : (scope : Path) (d : Machine) → in_member scope (node.Machine d) ≡ machine_items scope d
machine_gives scope d =
    ap (in_member scope) (sym (node.rolls-Machine d))
    ∙ ap (λ (f : Path → List Item). f scope) (fold-roll-Member (Path → List Item) (Path → List Item) member_step module_step (member.Machine d))

pub component_gives : (scope : Path) (d : Component) → in_member scope (node.Component d) ≡ component_items scope d
component_gives scope d =
    ap (in_member scope) (sym (node.rolls-Component d))
    ∙ ap (λ (f : Path → List Item). f scope) (fold-roll-Member (Path → List Item) (Path → List Item) member_step module_step (member.Component d))

pub interface_gives : (scope : Path) (d : Interface) → in_member scope (node.Interface d) ≡ interface_items scope d
interface_gives scope d =
    ap (in_member scope) (sym (node.rolls-Interface d))
    ∙ ap (λ (f : Path → List Item). f scope) (fold-roll-Member (Path → List Item) (Path → List Item) member_step module_step (member.Interface d))

pub instance_gives : (scope : Path) (d : Instance) → in_member scope (node.Instance d) ≡ instance_items scope d
instance_gives scope d =
    ap (in_member scope) (sym (node.rolls-Instance d))
    ∙ ap (λ (f : Path → List Item). f scope) (fold-roll-Member (Path → List Item) (Path → List Item) member_step module_step (member.Instance d))

pub topology_gives : (scope : Path) (d : Topology) → in_member scope (node.Topology d) ≡ topology_items scope d
topology_gives scope d =
    ap (in_member scope) (sym (node.rolls-Topology d))
    ∙ ap (λ (f : Path → List Item). f scope) (fold-roll-Member (Path → List Item) (Path → List Item) member_step module_step (member.Topology d))

-- others give nothing
pub include_gives : (scope : Path) (i : Include) → in_member scope (node.Include i) ≡ []
include_gives scope i =
    ap (in_member scope) (sym (node.rolls-Include i))
    ∙ ap (λ (f : Path → List Item). f scope) (fold-roll-Member (Path → List Item) (Path → List Item) member_step module_step (member.Include i))

pub locate_gives : (scope : Path) (l : Locate) → in_member scope (node.Locate l) ≡ []
locate_gives scope l =
    ap (in_member scope) (sym (node.rolls-Locate l))
    ∙ ap (λ (f : Path → List Item). f scope) (fold-roll-Member (Path → List Item) (Path → List Item) member_step module_step (member.Locate l))

-- an array gives what its items give
pub array_gives : (scope : Path) (items : List Expr) → in_form scope (Array items) ≡ flat_map (in_expression scope) items
array_gives scope items =
    ap (in_form scope) (sym (rolls-Array items))
    ∙ fold-roll-Form (List Mention) (List Mention) (List Mention) (form_step scope) (assignment_step scope) (expression_step scope) (form.Array items)
    ∙ flat_map-map (λ (uses : List Mention). uses) (in_expression scope) items

-- a struct gives what the values of its members give
pub struct_gives : (scope : Path) (members : List Assignment) → in_form scope (Struct members) ≡ flat_map (in_assignment scope) members
struct_gives scope members =
    ap (in_form scope) (sym (rolls-Struct members))
    ∙ fold-roll-Form (List Mention) (List Mention) (List Mention) (form_step scope) (assignment_step scope) (expression_step scope) (form.Struct members)
    ∙ flat_map-map (λ (uses : List Mention). uses) (in_assignment scope) members
