-- What holds of the items of each definition, and of lists that are joined, holds of the items of a source. Beside constants, types and
-- ports a definition is followed by the names and expressions that it has.
use Rattle.std.proofs.Common.{◌≡◌, List, [], ◌∷◌, ◌++◌, flat_map, map, sym, ap, subst, ◌∙◌}
use Rattle.std.proofs.lemmas.List.Folds.{flat_map-map}
use Rattle.fp_tree.specs.declared.source.Source.{Source}
use Rattle.fp_tree.specs.declared.member.Unit.{Unit as File}
use Rattle.fp_tree.specs.declared.member.Member.{Member, Member-F}
use Rattle.fp_tree.specs.declared.member.Member.TheFolds.{fold-Member, fold-Module, fold-roll-Member, fold-roll-Module, ind-Member, map-Member, map-Module}
use Rattle.fp_tree.specs.declared.member.Member.TheOpen as open_member
use Rattle.fp_tree.specs.declared.member.Member.TheViews.{roll-Member, roll-Module}
use Rattle.fp_tree.specs.declared.member.Module.{Module, Module-F}
use Rattle.fp_tree.specs.declared.definition.Def.{Def}
use Rattle.fp_tree.specs.declared.machine.Machine.{Machine}
use Rattle.fp_tree.specs.declared.component.Component.{Component}
use Rattle.fp_tree.specs.declared.component.Part.{Part}
use Rattle.fp_tree.specs.declared.component.Part.TheVariants as part
use Rattle.fp_meaning.specs.declared.item.Item.{Item}
use Rattle.fp_meaning.specs.declared.item.Item.TheVariants as item
use Rattle.fp_meaning.specs.Sites.{Path, ModelDef, machine, component, interface, instance, topology, declaration}
use Rattle.fp_meaning.specs.Layout.{items_in, machine_items, own_items, inner_items, component_scope, component_items, interface_part_items, topology_member_items, model_own_items, model_items, member_step, module_step, in_member, in_members, items}
use Rattle.fp_meaning.proofs.Since.{AllSince, since_each, since_behavior, since_own, since_interface, since_instance, since_topology}

abbrev pub in_module : Path → Module → List Item
in_module scope m = fold-Module (Path → List Item) (Path → List Item) member_step module_step m scope

-- what a node gives is what its layer gives
pub member_rolled : (x : Member-F Member Module) (scope : Path)
    → in_member scope (roll-Member x) ≡ member_step (map-Member _ _ _ _ (fold-Member (Path → List Item) (Path → List Item) member_step module_step) (fold-Module (Path → List Item) (Path → List Item) member_step module_step) x) scope
member_rolled x scope = ap (λ (h : Path → List Item). h scope) (fold-roll-Member (Path → List Item) (Path → List Item) member_step module_step x)

pub members_rolled : (x : Module-F Member Module) (scope : Path) → in_module scope (roll-Module x) ≡ in_members (scope ++ x.name.text ∷ []) x.members
members_rolled x scope =
    ap (λ (h : Path → List Item). h scope) (fold-roll-Module (Path → List Item) (Path → List Item) member_step module_step x)
    ∙ flat_map-map (λ (inner : Path → List Item). inner (scope ++ x.name.text ∷ []))
    (fold-Member (Path → List Item) (Path → List Item) member_step module_step) x.members

module _ (P : List Item → Type 0) (none : P []) (joined : (xs ys : List Item) → P xs → P ys → P (xs ++ ys)) (defined : (scope : Path) (d : Def) → P (items_in scope d))
    (exactly : (scope : Path) (d : ModelDef) → P (model_items scope d)) where
  throughout : {A : Type 0} (f : A → List Item) → ((x : A) → P (f x)) → (xs : List A) → P (flat_map f xs)
  throughout f h [] = none
  throughout f h (x ∷ xs) = joined (f x) (flat_map f xs) (h x) (throughout f h xs)

  of_machine : (scope : Path) (m : Machine) → P (machine_items scope m)
  of_machine scope m = exactly scope (machine m)

  of_inner : (scope : Path) (p : Part) → P (inner_items scope p)
  of_inner scope (part.Def d) = defined scope d
  of_inner scope (part.Machine m) = of_machine scope m
  of_inner scope (part.General p) = none
  of_inner scope (part.Special p) = none
  of_inner scope (part.Internal p) = none
  of_inner scope (part.Command c) = none
  of_inner scope (part.Event e) = none
  of_inner scope (part.Channel t) = none
  of_inner scope (part.Param p) = none
  of_inner scope (part.Match m) = none
  of_inner scope (part.Running r) = none
  of_inner scope (part.Import i) = none
  of_inner scope (part.Include i) = none

  of_component : (scope : Path) (c : Component) → P (component_items scope c)
  of_component scope c =
      let inside : Path = component_scope scope c in
      joined (model_items scope (component c)) (flat_map (inner_items inside) c.parts) (exactly scope (component c)) (throughout (inner_items inside) (of_inner inside) c.parts)

  abbrev Holds : Member → Type 0
  Holds m = (scope : Path) → P (in_member scope m)

  abbrev HoldsWithin : Module → Type 0
  HoldsWithin m = (scope : Path) → P (in_module scope m)

  inner : (ms : List ((m : Member) × Holds m)) (scope : Path) → P (in_members scope (map (λ e. e.0) ms))
  inner [] scope = none
  inner (e ∷ ms) scope = joined (in_member scope e.0) (in_members scope (map (λ x. x.0) ms)) (e.1 scope) (inner ms scope)

  by_module : (y : Module-F ((m : Member) × Holds m) ((m : Module) × HoldsWithin m)) → HoldsWithin (roll-Module (map-Module _ _ _ _ (λ e. e.0) (λ e. e.0) y))
  by_module y scope =
      let x : Module-F Member Module = map-Module _ _ _ _ (λ e. e.0) (λ e. e.0) y in
      subst P (sym (members_rolled x scope)) (inner y.members (scope ++ x.name.text ∷ []))

  by_member : (y : Member-F ((m : Member) × Holds m) ((m : Module) × HoldsWithin m)) → Holds (roll-Member (map-Member _ _ _ _ (λ e. e.0) (λ e. e.0) y))
  by_member (open_member.Module e) scope = subst P (sym (member_rolled (open_member.Module e.0) scope)) (e.1 scope)
  by_member (open_member.Def d) scope = subst P (sym (member_rolled (open_member.Def d) scope)) (defined scope d)
  by_member (open_member.Machine m) scope = subst P (sym (member_rolled (open_member.Machine m) scope)) (of_machine scope m)
  by_member (open_member.Component c) scope = subst P (sym (member_rolled (open_member.Component c) scope)) (of_component scope c)
  by_member (open_member.Interface f) scope = subst P (sym (member_rolled (open_member.Interface f) scope)) (exactly scope (interface f))
  by_member (open_member.Instance n) scope = subst P (sym (member_rolled (open_member.Instance n) scope)) (exactly scope (instance n))
  by_member (open_member.Topology t) scope = subst P (sym (member_rolled (open_member.Topology t) scope)) (exactly scope (topology t))
  by_member (open_member.Include i) scope = subst P (sym (member_rolled (open_member.Include i) scope)) none
  by_member (open_member.Locate l) scope = subst P (sym (member_rolled (open_member.Locate l) scope)) none

  member_layer : (x : Member-F Member Module) (y : Member-F ((m : Member) × Holds m) ((m : Module) × HoldsWithin m)) → map-Member _ _ _ _ (λ e. e.0) (λ e. e.0) y ≡ x → Holds (roll-Member x)
  member_layer x y is = subst (λ (z : Member-F Member Module). Holds (roll-Member z)) is (by_member y)

  module_layer : (x : Module-F Member Module) (y : Module-F ((m : Member) × Holds m) ((m : Module) × HoldsWithin m)) → map-Module _ _ _ _ (λ e. e.0) (λ e. e.0) y ≡ x → HoldsWithin (roll-Module x)
  module_layer x y is = subst (λ (z : Module-F Member Module). HoldsWithin (roll-Module z)) is (by_module y)

  of_member : (m : Member) → Holds m
  of_member = ind-Member Holds HoldsWithin member_layer module_layer

  pub all_exactly : (source : Source) → P (items source)
  all_exactly source = throughout (λ (u : File). in_members [] u.members) (λ u. throughout (in_member []) (λ m. of_member m []) u.members) source.units

pub since_model : (scope : Path) (d : ModelDef) → AllSince 0 (model_own_items scope d)
since_model scope (machine d) = since_behavior scope d.behavior
since_model scope (component d) = since_each (own_items (component_scope scope d)) (since_own (component_scope scope d)) d.parts
since_model scope (interface d) = since_each (interface_part_items scope) (since_interface scope) d.parts
since_model scope (instance d) = since_instance scope d
since_model scope (topology d) = since_each (topology_member_items scope) (since_topology scope) d.members

-- the same where all that matters of the names and expressions is whose they are
module _ (P : List Item → Type 0) (none : P []) (joined : (xs ys : List Item) → P xs → P ys → P (xs ++ ys)) (defined : (scope : Path) (d : Def) → P (items_in scope d))
    (declared : (scope : Path) (d : ModelDef) (is : List Item) → AllSince 0 is → P (item.Declared (declaration scope d) ∷ is)) where
  pub all_items : (source : Source) → P (items source)
  all_items source = all_exactly P none joined defined (λ scope d. declared scope d (model_own_items scope d) (since_model scope d)) source
