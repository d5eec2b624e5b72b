-- Where the includes among members and the places of all that members give stand in files below a number, so does each include in them, also
-- in components and in topologies.
use Rattle.std.proofs.Common.{◌≡◌, ℕ, ◌<◌, List, [], ◌∷◌, ◌++◌, flat_map, map, sym, subst, ◌∙◌}
use Rattle.std.specs.List.{AllByRecursion}
use Rattle.std.proofs.lemmas.List.Folds.{flat_map-map}
use Rattle.fp_base.proofs.Lists.{each_append, each_before, each_behind}
use Rattle.fp_base.specs.declared.place.Place.{Place}
use Rattle.fp_tree.specs.declared.component.Component.{Component}
use Rattle.fp_tree.specs.declared.component.Part.{Part}
use Rattle.fp_tree.specs.declared.component.Part.TheVariants as part
use Rattle.fp_tree.specs.declared.topology.TMember.{TMember}
use Rattle.fp_tree.specs.declared.topology.TMember.TheVariants as topology_member
use Rattle.fp_tree.specs.declared.topology.Topology.{Topology}
use Rattle.fp_tree.specs.declared.member.Include.{Include}
use Rattle.fp_tree.specs.declared.member.Member.{Member, Member-F}
use Rattle.fp_tree.specs.declared.member.Member.TheFolds.{fold-Member, fold-Module, fold-roll-Member, fold-roll-Module, ind-Member, map-Member, map-Module}
use Rattle.fp_tree.specs.declared.member.Member.TheOpen as open_member
use Rattle.fp_tree.specs.declared.member.Member.TheViews.{roll-Member, roll-Module}
use Rattle.fp_tree.specs.declared.member.Module.{Module, Module-F}
use Rattle.fp_meaning.specs.declared.item.Item.{Item}
use Rattle.fp_meaning.specs.declared.item.Item.TheVariants as item
use Rattle.fp_meaning.specs.Sites.{Path, component, declaration}
use Rattle.fp_meaning.specs.Layout.{component_items, component_scope, in_member, in_members, inner_items, own_items, topology_items}
use Rattle.fp_meaning.proofs.Throughout.{in_module, member_rolled, members_rolled}
use Rattle.fp_places.specs.Places.{places_in_part, places_in_topology_member, places_of}
use Rattle.fp_places.specs.Includes.{includes_in, includes_of_member, includes_of_module, includes_within}
use Rattle.fp_gather.specs.declared.gathering.including.Inclusion.{Inclusion}
use Rattle.fp_gather.specs.gathering.Includes.{inclusions_in_part, inclusions_in_topology_member, inclusions_of_member, inclusions_of_module, inclusions_within}

module _ (n : ℕ) where
  abbrev Below : Inclusion → Type 0
  Below i = i.include.at.first.file < n

  abbrev AsInclude : Include → Type 0
  AsInclude i = i.at.first.file < n

  abbrev IsPlaced : Item → Type 0
  IsPlaced i = AllByRecursion (λ (p : Place). p.file < n) (places_of i)

  -- of what stands in a row
  of_row : {A : Type 0} (places : A → List Place) (found : A → List Inclusion) → ((x : A) → AllByRecursion (λ (q : Place). q.file < n) (places x) → AllByRecursion Below (found x))
      → (xs : List A) → AllByRecursion (λ (q : Place). q.file < n) (flat_map places xs) → AllByRecursion Below (flat_map found xs)
  of_row places found of [] h = tt
  of_row places found of (x ∷ xs) h =
      each_append Below (found x) (flat_map found xs)
      (of x (each_before (λ (q : Place). q.file < n) (places x) (flat_map places xs) h))
      (of_row places found of xs (each_behind (λ (q : Place). q.file < n) (places x) (flat_map places xs) h))

  of_part : (p : Part) → AllByRecursion (λ (q : Place). q.file < n) (places_in_part p) → AllByRecursion Below (inclusions_in_part p)
  of_part (part.Def d) h = tt
  of_part (part.Machine m) h = tt
  of_part (part.General p) h = tt
  of_part (part.Special p) h = tt
  of_part (part.Internal p) h = tt
  of_part (part.Command c) h = tt
  of_part (part.Event e) h = tt
  of_part (part.Channel t) h = tt
  of_part (part.Param p) h = tt
  of_part (part.Match m) h = tt
  of_part (part.Running r) h = tt
  of_part (part.Import i) h = tt
  of_part (part.Include i) h = (h.0, tt)

  pub of_parts : (ps : List Part) → AllByRecursion (λ (q : Place). q.file < n) (flat_map places_in_part ps) → AllByRecursion Below (flat_map inclusions_in_part ps)
  of_parts ps h = of_row places_in_part inclusions_in_part of_part ps h

  of_component : (scope : Path) (c : Component) → AllByRecursion IsPlaced (component_items scope c) → AllByRecursion Below (flat_map inclusions_in_part c.parts)
  of_component scope c h =
      let own : List Item = flat_map (own_items (component_scope scope c)) c.parts in
      let front = each_before IsPlaced (item.Declared (declaration scope (component c)) ∷ own) (flat_map (inner_items (component_scope scope c)) c.parts) h in
      of_parts c.parts front.0.1

  of_one : (t : TMember) → AllByRecursion (λ (q : Place). q.file < n) (places_in_topology_member t) → AllByRecursion Below (inclusions_in_topology_member t)
  of_one (topology_member.Instance i) h = tt
  of_one (topology_member.Import i) h = tt
  of_one (topology_member.Connections c) h = tt
  of_one (topology_member.Pattern p) h = tt
  of_one (topology_member.Include i) h = (h.0, tt)

  pub of_topology : (ts : List TMember) → AllByRecursion (λ (q : Place). q.file < n) (flat_map places_in_topology_member ts) → AllByRecursion Below (flat_map inclusions_in_topology_member ts)
  of_topology ts h = of_row places_in_topology_member inclusions_in_topology_member of_one ts h

  of_declared : (scope : Path) (t : Topology) → AllByRecursion IsPlaced (topology_items scope t) → AllByRecursion Below (flat_map inclusions_in_topology_member t.members)
  of_declared scope t h = of_topology t.members h.0.1

  -- ---- modules

  abbrev Stands : Member → Type 0
  Stands m = (scope : Path) → AllByRecursion AsInclude (includes_within m) → AllByRecursion IsPlaced (in_member scope m) → AllByRecursion Below (inclusions_within m)

  abbrev StandsIn : Module → Type 0
  StandsIn m =
      (scope : Path) → AllByRecursion AsInclude (fold-Module (List Include) (List Include) includes_of_member includes_of_module m) → AllByRecursion IsPlaced (in_module scope m)
      → AllByRecursion Below (fold-Module (List Inclusion) (List Inclusion) inclusions_of_member inclusions_of_module m)

  all_stand : (ms : List ((m : Member) × Stands m)) (scope : Path) → AllByRecursion AsInclude (includes_in (map (λ e. e.0) ms)) → AllByRecursion IsPlaced (in_members scope (map (λ e. e.0) ms))
      → AllByRecursion Below (flat_map inclusions_within (map (λ e. e.0) ms))
  all_stand [] scope h k = tt
  all_stand (e ∷ ms) scope h k =
      each_append Below (inclusions_within e.0) (flat_map inclusions_within (map (λ x. x.0) ms))
      (e.1 scope (each_before AsInclude (includes_within e.0) (includes_in (map (λ x. x.0) ms)) h) (each_before IsPlaced (in_member scope e.0) (in_members scope (map (λ x. x.0) ms)) k))
      (all_stand ms scope (each_behind AsInclude (includes_within e.0) (includes_in (map (λ x. x.0) ms)) h) (each_behind IsPlaced (in_member scope e.0) (in_members scope (map (λ x. x.0) ms)) k))

  by_module : (y : Module-F ((m : Member) × Stands m) ((m : Module) × StandsIn m)) → StandsIn (roll-Module (map-Module _ _ _ _ (λ e. e.0) (λ e. e.0) y))
  by_module y scope h k =
      let x : Module-F Member Module = map-Module _ _ _ _ (λ e. e.0) (λ e. e.0) y in
      let theirs : AllByRecursion AsInclude (includes_in x.members) =
      subst (AllByRecursion AsInclude) (fold-roll-Module (List Include) (List Include) includes_of_member includes_of_module x
      ∙ flat_map-map (λ (is : List Include). is) (fold-Member (List Include) (List Include) includes_of_member includes_of_module) x.members) h in
      let places : AllByRecursion IsPlaced (in_members (scope ++ x.name.text ∷ []) x.members) = subst (AllByRecursion IsPlaced) (members_rolled x scope) k in
      subst (AllByRecursion Below) (sym (fold-roll-Module (List Inclusion) (List Inclusion) inclusions_of_member inclusions_of_module x
      ∙ flat_map-map (λ (is : List Inclusion). is) (fold-Member (List Inclusion) (List Inclusion) inclusions_of_member inclusions_of_module) x.members))
      (all_stand y.members (scope ++ x.name.text ∷ []) theirs places)

  rolled : (x : Member-F Member Module) → inclusions_within (roll-Member x)
      ≡ inclusions_of_member (map-Member _ _ _ _ (fold-Member (List Inclusion) (List Inclusion) inclusions_of_member inclusions_of_module) (fold-Module (List Inclusion) (List Inclusion) inclusions_of_member inclusions_of_module) x)
  rolled x = fold-roll-Member (List Inclusion) (List Inclusion) inclusions_of_member inclusions_of_module x

  rolled_includes : (x : Member-F Member Module) → includes_within (roll-Member x)
      ≡ includes_of_member (map-Member _ _ _ _ (fold-Member (List Include) (List Include) includes_of_member includes_of_module) (fold-Module (List Include) (List Include) includes_of_member includes_of_module) x)
  rolled_includes x = fold-roll-Member (List Include) (List Include) includes_of_member includes_of_module x

  by_member : (y : Member-F ((m : Member) × Stands m) ((m : Module) × StandsIn m)) → Stands (roll-Member (map-Member _ _ _ _ (λ e. e.0) (λ e. e.0) y))
  by_member (open_member.Module e) scope h k =
      subst (AllByRecursion Below) (sym (rolled (open_member.Module e.0)))
      (e.1 scope (subst (AllByRecursion AsInclude) (rolled_includes (open_member.Module e.0)) h) (subst (AllByRecursion IsPlaced) (member_rolled (open_member.Module e.0) scope) k))
  by_member (open_member.Def d) scope h k = subst (AllByRecursion Below) (sym (rolled (open_member.Def d))) tt
  by_member (open_member.Machine m) scope h k = subst (AllByRecursion Below) (sym (rolled (open_member.Machine m))) tt
  by_member (open_member.Component c) scope h k =
      subst (AllByRecursion Below) (sym (rolled (open_member.Component c))) (of_component scope c (subst (AllByRecursion IsPlaced) (member_rolled (open_member.Component c) scope) k))
  by_member (open_member.Interface f) scope h k = subst (AllByRecursion Below) (sym (rolled (open_member.Interface f))) tt
  by_member (open_member.Instance m) scope h k = subst (AllByRecursion Below) (sym (rolled (open_member.Instance m))) tt
  by_member (open_member.Topology t) scope h k =
      subst (AllByRecursion Below) (sym (rolled (open_member.Topology t))) (of_declared scope t (subst (AllByRecursion IsPlaced) (member_rolled (open_member.Topology t) scope) k))
  by_member (open_member.Include i) scope h k =
      let own : AllByRecursion AsInclude (i ∷ []) = subst (AllByRecursion AsInclude) (rolled_includes (open_member.Include i)) h in
      subst (AllByRecursion Below) (sym (rolled (open_member.Include i))) (own.0, tt)
  by_member (open_member.Locate l) scope h k = subst (AllByRecursion Below) (sym (rolled (open_member.Locate l))) tt

  member_layer : (x : Member-F Member Module) (y : Member-F ((m : Member) × Stands m) ((m : Module) × StandsIn m)) → map-Member _ _ _ _ (λ e. e.0) (λ e. e.0) y ≡ x → Stands (roll-Member x)
  member_layer x y is = subst (λ (z : Member-F Member Module). Stands (roll-Member z)) is (by_member y)

  module_layer : (x : Module-F Member Module) (y : Module-F ((m : Member) × Stands m) ((m : Module) × StandsIn m)) → map-Module _ _ _ _ (λ e. e.0) (λ e. e.0) y ≡ x → StandsIn (roll-Module x)
  module_layer x y is = subst (λ (z : Module-F Member Module). StandsIn (roll-Module z)) is (by_module y)

  member_stands : (m : Member) → Stands m
  member_stands = ind-Member Stands StandsIn member_layer module_layer

  pub of_members : (ms : List Member) (scope : Path) → AllByRecursion AsInclude (includes_in ms) → AllByRecursion IsPlaced (in_members scope ms) → AllByRecursion Below (flat_map inclusions_within ms)
  of_members [] scope h k = tt
  of_members (m ∷ ms) scope h k =
      each_append Below (inclusions_within m) (flat_map inclusions_within ms)
      (member_stands m scope (each_before AsInclude (includes_within m) (includes_in ms) h) (each_before IsPlaced (in_member scope m) (in_members scope ms) k))
      (of_members ms scope (each_behind AsInclude (includes_within m) (includes_in ms) h) (each_behind IsPlaced (in_member scope m) (in_members scope ms) k))
