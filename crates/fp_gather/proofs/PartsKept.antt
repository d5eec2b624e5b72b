-- What holds of members, of parts of components and of members of topologies, and of what files give, holds of what these give once an insert
-- stands in place of each include: in any scope, where it holds of a module if it holds of its name and of its members, and of a component
-- and of a topology whatever its parts or members are of which it holds.
use Rattle.std.proofs.Common.{◌≡◌, List, [], ◌∷◌, ◌++◌, map, sym, subst}
use Rattle.std.specs.List.{AllByRecursion}
use Rattle.fp_parse_parts.specs.declared.parsing.Members.{Members}
use Rattle.fp_parse_parts.specs.declared.parsing.Members.TheVariants as given
use Rattle.fp_tree.specs.declared.component.Component.{Component}
use Rattle.fp_tree.specs.declared.component.Part.{Part}
use Rattle.fp_tree.specs.declared.component.Part.TheVariants as part
use Rattle.fp_tree.specs.declared.member.Member.{Member, Member-F}
use Rattle.fp_tree.specs.declared.member.Member.TheFolds.{fold-roll-Member, fold-roll-Module, ind-Member, map-Member, map-Module}
use Rattle.fp_tree.specs.declared.member.Member.TheOpen as open_member
use Rattle.fp_tree.specs.declared.member.Member.TheVariants.{rolls-Def, rolls-Machine, rolls-Component, rolls-Interface, rolls-Instance, rolls-Topology, rolls-Locate}
use Rattle.fp_tree.specs.declared.member.Member.TheVariants as member
use Rattle.fp_tree.specs.declared.member.Member.TheViews.{roll-Member, roll-Module}
use Rattle.fp_tree.specs.declared.member.Module.{Module, Module-F}
use Rattle.fp_tree.specs.declared.name.Name.{Name}
use Rattle.fp_tree.specs.declared.topology.TMember.{TMember}
use Rattle.fp_tree.specs.declared.topology.TMember.TheVariants as topology_member
use Rattle.fp_tree.specs.declared.topology.Topology.{Topology}
use Rattle.fp_meaning.specs.Sites.{Path}
use Rattle.fp_base.proofs.Lists.{each_append, each_mapped, each_weaker}
use Rattle.fp_gather.specs.gathering.Includes.{Inserts, Placed, in_turn, itself, members_of, next_insert, parts_of, place_in_member, place_in_module, placed, placed_component, placed_module, placed_part, placed_topology, placed_topology_member, replaced, topology_members_of}

-- a component with other parts
abbrev pub with_parts : Component → List Part → Component
with_parts c ps = record { kind = c.kind; name = c.name; parts = ps; at = c.at; note = c.note }

-- a topology with other members
abbrev pub with_members : Topology → List TMember → Topology
with_members t ts = record { name = t.name; members = ts; at = t.at; note = t.note }

module _ (At : Path → Member → Type 0) (Within : Path → Module → Type 0) (Own : Name → Type 0) (PartAt : Path → Part → Type 0) (InTopology : Path → TMember → Type 0) where
  -- of what a file gives, in any scope
  abbrev pub HoldIn : Members → Type 0
  HoldIn (given.Unit ms) = (scope : Path) → AllByRecursion (At scope) ms
  HoldIn (given.Component ps) = (scope : Path) → AllByRecursion (PartAt scope) ps
  HoldIn (given.Topology ts) = (scope : Path) → AllByRecursion (InTopology scope) ts

  -- of what stands in place of something, and of the inserts that are left
  abbrev Placing : {A : Type 0} → (A → Type 0) → Placed A → Type 0
  Placing Q p = AllByRecursion Q p.items × AllByRecursion HoldIn p.left

  abbrev Keeping : {A : Type 0} → (A → Type 0) → (Inserts → Placed A) → Type 0
  Keeping Q f = (inserts : Inserts) → AllByRecursion HoldIn inserts → Placing Q (f inserts)

  turn_keeps : {A : Type 0} (Q : A → Type 0) (fs : List (Inserts → Placed A)) → AllByRecursion (Keeping Q) fs → Keeping Q (in_turn fs)
  turn_keeps Q [] h inserts k = (tt, k)
  turn_keeps Q (f ∷ fs) h inserts k =
      let here : Placing Q (f inserts) = h.0 inserts k in
      let behind : Placing Q (in_turn fs (f inserts).left) = turn_keeps Q fs h.1 (f inserts).left here.1 in
      (each_append Q (f inserts).items (in_turn fs (f inserts).left).items here.0 behind.0, behind.1)

  -- of each in a row
  row_keeps : {A : Type 0} (Q : A → Type 0) (place : A → Inserts → Placed A) → ((x : A) → Q x → Keeping Q (place x)) → (xs : List A) → AllByRecursion Q xs → Keeping Q (in_turn (map place xs))
  row_keeps Q place keeps xs h = turn_keeps Q (map place xs) (each_mapped (Keeping Q) place xs (each_weaker Q (λ x. Keeping Q (place x)) keeps xs h))

  own_keeps : {A : Type 0} (Q : A → Type 0) (x : A) → Q x → Keeping Q (itself x)
  own_keeps Q x h inserts k = ((h, tt), k)

  members_given : (scope : Path) (x : Members) → HoldIn x → AllByRecursion (At scope) (members_of x)
  members_given scope (given.Unit ms) h = h scope
  members_given scope (given.Component ps) h = tt
  members_given scope (given.Topology ts) h = tt

  parts_given : (scope : Path) (x : Members) → HoldIn x → AllByRecursion (PartAt scope) (parts_of x)
  parts_given scope (given.Unit ms) h = tt
  parts_given scope (given.Component ps) h = h scope
  parts_given scope (given.Topology ts) h = tt

  topology_given : (scope : Path) (x : Members) → HoldIn x → AllByRecursion (InTopology scope) (topology_members_of x)
  topology_given scope (given.Unit ms) h = tt
  topology_given scope (given.Component ps) h = tt
  topology_given scope (given.Topology ts) h = h scope

  next_keeps : {A : Type 0} (Q : A → Type 0) (of : Members → List A) → ((x : Members) → HoldIn x → AllByRecursion Q (of x)) → Keeping Q (next_insert of)
  next_keeps Q of to [] k = (tt, tt)
  next_keeps Q of to (x ∷ xs) k = (to x k.0, k.1)

  -- ---- parts

  part_keeps : (scope : Path) (p : Part) → PartAt scope p → Keeping (PartAt scope) (placed_part p)
  part_keeps scope (part.Def d) h = own_keeps (PartAt scope) (part.Def d) h
  part_keeps scope (part.Machine m) h = own_keeps (PartAt scope) (part.Machine m) h
  part_keeps scope (part.General p) h = own_keeps (PartAt scope) (part.General p) h
  part_keeps scope (part.Special p) h = own_keeps (PartAt scope) (part.Special p) h
  part_keeps scope (part.Internal p) h = own_keeps (PartAt scope) (part.Internal p) h
  part_keeps scope (part.Command c) h = own_keeps (PartAt scope) (part.Command c) h
  part_keeps scope (part.Event e) h = own_keeps (PartAt scope) (part.Event e) h
  part_keeps scope (part.Channel t) h = own_keeps (PartAt scope) (part.Channel t) h
  part_keeps scope (part.Param p) h = own_keeps (PartAt scope) (part.Param p) h
  part_keeps scope (part.Match m) h = own_keeps (PartAt scope) (part.Match m) h
  part_keeps scope (part.Running r) h = own_keeps (PartAt scope) (part.Running r) h
  part_keeps scope (part.Import i) h = own_keeps (PartAt scope) (part.Import i) h
  part_keeps scope (part.Include i) h = next_keeps (PartAt scope) parts_of (parts_given scope)

  parts_keep : (scope : Path) (ps : List Part) → AllByRecursion (PartAt scope) ps → Keeping (PartAt scope) (in_turn (map placed_part ps))
  parts_keep scope ps h = row_keeps (PartAt scope) placed_part (part_keeps scope) ps h

  -- ---- members of topologies

  one_keeps : (scope : Path) (t : TMember) → InTopology scope t → Keeping (InTopology scope) (placed_topology_member t)
  one_keeps scope (topology_member.Instance i) h = own_keeps (InTopology scope) (topology_member.Instance i) h
  one_keeps scope (topology_member.Import i) h = own_keeps (InTopology scope) (topology_member.Import i) h
  one_keeps scope (topology_member.Connections c) h = own_keeps (InTopology scope) (topology_member.Connections c) h
  one_keeps scope (topology_member.Pattern p) h = own_keeps (InTopology scope) (topology_member.Pattern p) h
  one_keeps scope (topology_member.Include i) h = next_keeps (InTopology scope) topology_members_of (topology_given scope)

  listed_keep : (scope : Path) (ts : List TMember) → AllByRecursion (InTopology scope) ts → Keeping (InTopology scope) (in_turn (map placed_topology_member ts))
  listed_keep scope ts h = row_keeps (InTopology scope) placed_topology_member (one_keeps scope) ts h

  -- ---- members

  module _ (rolled : (scope : Path) (m : Module) → At scope (roll-Member (open_member.Module m)) → Within scope m)
      (opened : (scope : Path) (x : Module-F Member Module) → Within scope (roll-Module x) → Own x.name × AllByRecursion (At (scope ++ x.name.text ∷ [])) x.members)
      (closed : (scope : Path) (x : Module-F Member Module) → Own x.name → AllByRecursion (At (scope ++ x.name.text ∷ [])) x.members
      → At scope (member.Module (record { name = x.name; members = x.members; at = x.at; note = x.note })))
      (parts : (scope : Path) (c : Component) → At scope (member.Component c) → AllByRecursion (PartAt (scope ++ c.name.text ∷ [])) c.parts)
      (renewed : (scope : Path) (c : Component) (ps : List Part) → At scope (member.Component c) → AllByRecursion (PartAt (scope ++ c.name.text ∷ [])) ps
      → At scope (member.Component (with_parts c ps)))
      (listed : (scope : Path) (t : Topology) → At scope (member.Topology t) → AllByRecursion (InTopology scope) t.members)
      (relisted : (scope : Path) (t : Topology) (ts : List TMember) → At scope (member.Topology t) → AllByRecursion (InTopology scope) ts
      → At scope (member.Topology (with_members t ts))) where
    component_keeps : (scope : Path) (c : Component) → At scope (member.Component c) → Keeping (At scope) (placed_component c)
    component_keeps scope c h inserts k =
        let inner : Placing (PartAt (scope ++ c.name.text ∷ [])) (in_turn (map placed_part c.parts) inserts) =
        parts_keep (scope ++ c.name.text ∷ []) c.parts (parts scope c h) inserts k in
        ((renewed scope c (in_turn (map placed_part c.parts) inserts).items h inner.0, tt), inner.1)

    topology_keeps : (scope : Path) (t : Topology) → At scope (member.Topology t) → Keeping (At scope) (placed_topology t)
    topology_keeps scope t h inserts k =
        let inner : Placing (InTopology scope) (in_turn (map placed_topology_member t.members) inserts) = listed_keep scope t.members (listed scope t h) inserts k in
        ((relisted scope t (in_turn (map placed_topology_member t.members) inserts).items h inner.0, tt), inner.1)

    abbrev Keeps : Member → Type 0
    Keeps m = (scope : Path) → At scope m → Keeping (At scope) (placed m)

    abbrev Keep : Module → Type 0
    Keep m = (scope : Path) → Within scope m → Keeping (At scope) (placed_module m)

    all_keep : (ms : List ((m : Member) × Keeps m)) (scope : Path) → AllByRecursion (At scope) (map (λ e. e.0) ms)
        → AllByRecursion (Keeping (At scope)) (map placed (map (λ e. e.0) ms))
    all_keep [] scope h = tt
    all_keep (e ∷ ms) scope h = (e.1 scope h.0, all_keep ms scope h.1)

    rolled_placed : (x : Member-F Member Module) → placed (roll-Member x) ≡ place_in_member (map-Member _ _ _ _ placed placed_module x)
    rolled_placed x = fold-roll-Member (Inserts → Placed Member) (Inserts → Placed Member) place_in_member place_in_module x

    rolled_module : (x : Module-F Member Module) → placed_module (roll-Module x) ≡ place_in_module (map-Module _ _ _ _ placed placed_module x)
    rolled_module x = fold-roll-Module (Inserts → Placed Member) (Inserts → Placed Member) place_in_member place_in_module x

    by_module : (y : Module-F ((m : Member) × Keeps m) ((m : Module) × Keep m)) → Keep (roll-Module (map-Module _ _ _ _ (λ e. e.0) (λ e. e.0) y))
    by_module y scope h inserts k =
        let x : Module-F Member Module = map-Module _ _ _ _ (λ e. e.0) (λ e. e.0) y in
        let held : Own x.name × AllByRecursion (At (scope ++ x.name.text ∷ [])) x.members = opened scope x h in
        let inner : Placing (At (scope ++ x.name.text ∷ [])) (in_turn (map placed x.members) inserts) =
        turn_keeps (At (scope ++ x.name.text ∷ [])) (map placed x.members) (all_keep y.members (scope ++ x.name.text ∷ []) held.1) inserts k in
        let z : Module-F Member Module = record { name = x.name; members = (in_turn (map placed x.members) inserts).items; at = x.at; note = x.note } in
        subst (λ (f : Inserts → Placed Member). Placing (At scope) (f inserts)) (sym (rolled_module x))
        ((closed scope z held.0 inner.0, tt), inner.1)

    by_member : (y : Member-F ((m : Member) × Keeps m) ((m : Module) × Keep m)) → Keeps (roll-Member (map-Member _ _ _ _ (λ e. e.0) (λ e. e.0) y))
    by_member (open_member.Module e) scope h =
        subst (Keeping (At scope)) (sym (rolled_placed (open_member.Module e.0))) (e.1 scope (rolled scope e.0 h))
    by_member (open_member.Def d) scope h =
        subst (Keeping (At scope)) (sym (rolled_placed (open_member.Def d))) (own_keeps (At scope) (member.Def d) (subst (At scope) (rolls-Def d) h))
    by_member (open_member.Machine m) scope h =
        subst (Keeping (At scope)) (sym (rolled_placed (open_member.Machine m))) (own_keeps (At scope) (member.Machine m) (subst (At scope) (rolls-Machine m) h))
    by_member (open_member.Component c) scope h =
        subst (Keeping (At scope)) (sym (rolled_placed (open_member.Component c))) (component_keeps scope c (subst (At scope) (rolls-Component c) h))
    by_member (open_member.Interface f) scope h =
        subst (Keeping (At scope)) (sym (rolled_placed (open_member.Interface f))) (own_keeps (At scope) (member.Interface f) (subst (At scope) (rolls-Interface f) h))
    by_member (open_member.Instance n) scope h =
        subst (Keeping (At scope)) (sym (rolled_placed (open_member.Instance n))) (own_keeps (At scope) (member.Instance n) (subst (At scope) (rolls-Instance n) h))
    by_member (open_member.Topology t) scope h =
        subst (Keeping (At scope)) (sym (rolled_placed (open_member.Topology t))) (topology_keeps scope t (subst (At scope) (rolls-Topology t) h))
    by_member (open_member.Include i) scope h =
        subst (Keeping (At scope)) (sym (rolled_placed (open_member.Include i))) (next_keeps (At scope) members_of (members_given scope))
    by_member (open_member.Locate l) scope h =
        subst (Keeping (At scope)) (sym (rolled_placed (open_member.Locate l))) (own_keeps (At scope) (member.Locate l) (subst (At scope) (rolls-Locate l) h))

    member_layer : (x : Member-F Member Module) (y : Member-F ((m : Member) × Keeps m) ((m : Module) × Keep m)) → map-Member _ _ _ _ (λ e. e.0) (λ e. e.0) y ≡ x → Keeps (roll-Member x)
    member_layer x y is = subst (λ (z : Member-F Member Module). Keeps (roll-Member z)) is (by_member y)

    module_layer : (x : Module-F Member Module) (y : Module-F ((m : Member) × Keeps m) ((m : Module) × Keep m)) → map-Module _ _ _ _ (λ e. e.0) (λ e. e.0) y ≡ x → Keep (roll-Module x)
    module_layer x y is = subst (λ (z : Module-F Member Module). Keep (roll-Module z)) is (by_module y)

    member_keeps : (m : Member) → Keeps m
    member_keeps = ind-Member Keeps Keep member_layer module_layer

    members_keep : (scope : Path) (ms : List Member) → AllByRecursion (At scope) ms → Keeping (At scope) (in_turn (map placed ms))
    members_keep scope ms h = row_keeps (At scope) placed (λ m. member_keeps m scope) ms h

    -- of what a file gives, with an insert in place of each include
    pub replaced_keep : (own : Members) (inserts : Inserts) → HoldIn own → AllByRecursion HoldIn inserts → HoldIn (replaced own inserts)
    replaced_keep (given.Unit ms) inserts h k = λ scope. (members_keep scope ms (h scope) inserts k).0
    replaced_keep (given.Component ps) inserts h k = λ scope. (parts_keep scope ps (h scope) inserts k).0
    replaced_keep (given.Topology ts) inserts h k = λ scope. (listed_keep scope ts (h scope) inserts k).0
