-- What holds of all items that members, parts of components and members of topologies give in a scope, and of all names in them, holds once an
-- insert stands in place of each include. Of a component and of a topology itself it has to hold whatever its parts or members are of which
-- something holds that it says of each.
use Rattle.std.proofs.Common.{◌≡◌, List, [], ◌∷◌, ◌++◌, flat_map, sym, ap, subst, ◌∙◌}
use Rattle.std.specs.List.{AllByRecursion}
use Rattle.std.proofs.lemmas.List.Folds.{flat_map-map}
use Rattle.fp_base.proofs.Lists.{each_append, each_before, each_behind, each_flat, each_of_any, each_weaker, each_part}
use Rattle.fp_parse_parts.specs.declared.parsing.Inside.{Inside}
use Rattle.fp_parse_parts.specs.declared.parsing.Inside.TheVariants as inside
use Rattle.fp_parse_parts.specs.declared.parsing.Members.{Members}
use Rattle.fp_parse_parts.specs.declared.parsing.Members.TheVariants as given
use Rattle.fp_tree.specs.declared.component.Component.{Component}
use Rattle.fp_tree.specs.declared.component.Part.{Part}
use Rattle.fp_tree.specs.declared.name.Name.{Name}
use Rattle.fp_tree.specs.declared.topology.TMember.{TMember}
use Rattle.fp_tree.specs.declared.topology.Topology.{Topology}
use Rattle.fp_tree.specs.declared.member.Member.{Member}
use Rattle.fp_tree.specs.declared.member.Member.TheFolds.{fold-Member, fold-Module, fold-roll-Member, fold-roll-Module}
use Rattle.fp_tree.specs.declared.member.Member.TheOpen as open_member
use Rattle.fp_tree.specs.declared.member.Member.TheViews.{roll-Member, roll-Module}
use Rattle.fp_tree.specs.declared.member.Member.TheVariants.{rolls-Component, rolls-Module, rolls-Topology}
use Rattle.fp_tree.specs.declared.member.Member.TheVariants as member
use Rattle.fp_tree.specs.declared.member.Module.{Module, Module-F, fold_out-Module, out-Module}
use Rattle.fp_meaning.specs.declared.item.Item.{Item}
use Rattle.fp_meaning.specs.declared.item.Item.TheVariants as item
use Rattle.fp_meaning.specs.Sites.{Path, component, declaration, topology}
use Rattle.fp_meaning.specs.Layout.{component_items, component_scope, inner_items, member_step, module_step, in_member, in_members, own_items, topology_items, topology_member_items}
use Rattle.fp_meaning.proofs.Throughout.{in_module, members_rolled}
use Rattle.fp_meaning.proofs.Walks.{component_gives, module_gives, topology_gives}
use Rattle.fp_places.specs.Components.{names_in_component, names_in_part}
use Rattle.fp_places.specs.Names.{names_in, names_of_member, names_of_module, names_within}
use Rattle.fp_places.specs.Sites.{in_parts, in_topology}
use Rattle.fp_places.specs.Topologies.{names_in_topology, names_in_topology_member}
use Rattle.fp_places.proofs.Anything.{AnyName}
use Rattle.fp_gather.proofs.PartsKept.{HoldIn, replaced_keep, with_members, with_parts}
use Rattle.fp_gather.specs.gathering.Includes.{Inserts, replaced}
use Rattle.fp_gather.specs.gathering.Reading.{nothing_in}

-- ---- items

items_rolled : (scope : Path) (m : Module) → in_member scope (roll-Member (open_member.Module m)) ≡ in_module scope m
items_rolled scope m =
    ap (λ (h : Path → List Item). h scope) (fold-roll-Member (Path → List Item) (Path → List Item) member_step module_step (open_member.Module m))

-- what is said of parts of components and of members of topologies, where P is said of each item: a component and a topology say it of their
-- own, and are such items too with others of which it is said
pub record Parting (P : Item → Type 0) : Type 1 where
  pub OfPart : Part → Type 0
  pub OfMember : TMember → Type 0
  pub parts : (scope : Path) (c : Component) → P (item.Declared (declaration scope (component c))) → AllByRecursion OfPart c.parts
  pub renewed : (scope : Path) (c : Component) (ps : List Part) → P (item.Declared (declaration scope (component c))) → AllByRecursion OfPart ps
      → P (item.Declared (declaration scope (component (with_parts c ps))))
  pub listed : (scope : Path) (t : Topology) → P (item.Declared (declaration scope (topology t))) → AllByRecursion OfMember t.members
  pub relisted : (scope : Path) (t : Topology) (ts : List TMember) → P (item.Declared (declaration scope (topology t))) → AllByRecursion OfMember ts
      → P (item.Declared (declaration scope (topology (with_members t ts))))

-- where nothing is said of these
abbrev pub unparted : (P : Item → Type 0)
    → ((scope : Path) (c : Component) (ps : List Part) → P (item.Declared (declaration scope (component c))) → P (item.Declared (declaration scope (component (with_parts c ps)))))
    → ((scope : Path) (t : Topology) (ts : List TMember) → P (item.Declared (declaration scope (topology t))) → P (item.Declared (declaration scope (topology (with_members t ts)))))
    → Parting P
unparted P renewed relisted = record {
  OfPart = λ p. Unit {0};
  OfMember = λ t. Unit {0};
  parts = λ scope c h. each_of_any (λ p. Unit {0}) (λ p. tt) c.parts;
  renewed = λ scope c ps h k. renewed scope c ps h;
  listed = λ scope t h. each_of_any (λ t. Unit {0}) (λ t. tt) t.members;
  relisted = λ scope t ts h k. relisted scope t ts h;
}

-- two things of each
each_both : {A : Type 0} (P Q : A → Type 0) (xs : List A) → AllByRecursion P xs → AllByRecursion Q xs → AllByRecursion (λ x. P x × Q x) xs
each_both P Q [] h k = tt
each_both P Q (x ∷ xs) h k = ((h.0, k.0), each_both P Q xs h.1 k.1)

module _ (P : Item → Type 0) (law : Parting P) where
  abbrev ItemsAt : Path → Member → Type 0
  ItemsAt scope m = AllByRecursion P (in_member scope m)

  abbrev ItemsIn : Path → Module → Type 0
  ItemsIn scope m = AllByRecursion P (in_module scope m)

  -- of a part, and of what it gives in its component's scope
  abbrev PartHolds : Path → Part → Type 0
  PartHolds scope p = law.OfPart p × (AllByRecursion P (own_items scope p) × AllByRecursion P (inner_items scope p))

  -- of a member of a topology, and of what it gives in the topology's scope
  abbrev MemberHolds : Path → TMember → Type 0
  MemberHolds scope t = law.OfMember t × AllByRecursion P (topology_member_items scope t)

  -- all that a file gives in any scope
  abbrev pub Hold : Members → Type 0
  Hold x = HoldIn ItemsAt ItemsIn AnyName PartHolds MemberHolds x

  pub members_hold : (ms : List Member) → ((scope : Path) → AllByRecursion P (in_members scope ms)) → Hold (given.Unit ms)
  members_hold ms h scope = each_part P (in_member scope) ms (h scope)

  pub held_members : (ms : List Member) → Hold (given.Unit ms) → (scope : Path) → AllByRecursion P (in_members scope ms)
  held_members ms h scope = each_flat P (in_member scope) ms (h scope)

  -- ---- parts of components

  all_parts : (scope : Path) (ps : List Part) → AllByRecursion law.OfPart ps → AllByRecursion P (flat_map (own_items scope) ps) → AllByRecursion P (flat_map (inner_items scope) ps)
      → AllByRecursion (PartHolds scope) ps
  all_parts scope ps q h k =
      each_both law.OfPart (λ p. AllByRecursion P (own_items scope p) × AllByRecursion P (inner_items scope p)) ps q
      (each_both (λ p. AllByRecursion P (own_items scope p)) (λ p. AllByRecursion P (inner_items scope p)) ps (each_part P (own_items scope) ps h) (each_part P (inner_items scope) ps k))

  pub parts_hold : (ps : List Part) → AllByRecursion law.OfPart ps → ((scope : Path) → AllByRecursion P (in_parts scope ps)) → Hold (given.Component ps)
  parts_hold ps q h scope =
      all_parts scope ps q (each_before P (flat_map (own_items scope) ps) (flat_map (inner_items scope) ps) (h scope))
      (each_behind P (flat_map (own_items scope) ps) (flat_map (inner_items scope) ps) (h scope))

  own_held : (scope : Path) (ps : List Part) → AllByRecursion (PartHolds scope) ps → AllByRecursion P (flat_map (own_items scope) ps)
  own_held scope ps h = each_flat P (own_items scope) ps (each_weaker (PartHolds scope) (λ p. AllByRecursion P (own_items scope p)) (λ p q. q.1.0) ps h)

  inner_held : (scope : Path) (ps : List Part) → AllByRecursion (PartHolds scope) ps → AllByRecursion P (flat_map (inner_items scope) ps)
  inner_held scope ps h = each_flat P (inner_items scope) ps (each_weaker (PartHolds scope) (λ p. AllByRecursion P (inner_items scope p)) (λ p q. q.1.1) ps h)

  component_held : (scope : Path) (c : Component) → ItemsAt scope (member.Component c) → AllByRecursion P (component_items scope c)
  component_held scope c h = subst (AllByRecursion P) (component_gives scope c) h

  component_parts : (scope : Path) (c : Component) → ItemsAt scope (member.Component c) → AllByRecursion (PartHolds (scope ++ c.name.text ∷ [])) c.parts
  component_parts scope c h =
      let within : Path = component_scope scope c in
      let own : List Item = flat_map (own_items within) c.parts in
      let all = component_held scope c h in
      let front = each_before P (item.Declared (declaration scope (component c)) ∷ own) (flat_map (inner_items within) c.parts) all in
      all_parts within c.parts (law.parts scope c front.0) front.1
      (each_behind P (item.Declared (declaration scope (component c)) ∷ own) (flat_map (inner_items within) c.parts) all)

  component_again : (scope : Path) (c : Component) (ps : List Part) → ItemsAt scope (member.Component c) → AllByRecursion (PartHolds (scope ++ c.name.text ∷ [])) ps
      → ItemsAt scope (member.Component (with_parts c ps))
  component_again scope c ps h k =
      let within : Path = component_scope scope c in
      let new : Component = with_parts c ps in
      let front = each_before P (item.Declared (declaration scope (component c)) ∷ flat_map (own_items within) c.parts) (flat_map (inner_items within) c.parts) (component_held scope c h) in
      subst (AllByRecursion P) (sym (component_gives scope new))
      (each_append P (item.Declared (declaration scope (component new)) ∷ flat_map (own_items within) ps) (flat_map (inner_items within) ps)
      (law.renewed scope c ps front.0 (each_weaker (PartHolds within) law.OfPart (λ p q. q.0) ps k), own_held within ps k) (inner_held within ps k))

  -- ---- members of topologies

  pub topology_holds : (ts : List TMember) → AllByRecursion law.OfMember ts → ((scope : Path) → AllByRecursion P (in_topology scope ts)) → Hold (given.Topology ts)
  topology_holds ts q h scope = each_both law.OfMember (λ t. AllByRecursion P (topology_member_items scope t)) ts q (each_part P (topology_member_items scope) ts (h scope))

  topology_held : (scope : Path) (t : Topology) → ItemsAt scope (member.Topology t) → AllByRecursion P (topology_items scope t)
  topology_held scope t h = subst (AllByRecursion P) (topology_gives scope t) h

  topology_members : (scope : Path) (t : Topology) → ItemsAt scope (member.Topology t) → AllByRecursion (MemberHolds scope) t.members
  topology_members scope t h =
      let all = topology_held scope t h in
      each_both law.OfMember (λ m. AllByRecursion P (topology_member_items scope m)) t.members (law.listed scope t all.0) (each_part P (topology_member_items scope) t.members all.1)

  topology_again : (scope : Path) (t : Topology) (ts : List TMember) → ItemsAt scope (member.Topology t) → AllByRecursion (MemberHolds scope) ts
      → ItemsAt scope (member.Topology (with_members t ts))
  topology_again scope t ts h k =
      subst (AllByRecursion P) (sym (topology_gives scope (with_members t ts))) (
        law.relisted scope t ts (topology_held scope t h).0 (each_weaker (MemberHolds scope) law.OfMember (λ m q. q.0) ts k),
        each_flat P (topology_member_items scope) ts (each_weaker (MemberHolds scope) (λ m. AllByRecursion P (topology_member_items scope m)) (λ m q. q.1) ts k),
      )

  -- ---- modules

  module_opened : (scope : Path) (x : Module-F Member Module) → ItemsIn scope (roll-Module x) → AnyName x.name × AllByRecursion (ItemsAt (scope ++ x.name.text ∷ [])) x.members
  module_opened scope x h = (tt, each_part P (in_member (scope ++ x.name.text ∷ [])) x.members (subst (AllByRecursion P) (members_rolled x scope) h))

  module_closed : (scope : Path) (x : Module-F Member Module) → AnyName x.name → AllByRecursion (ItemsAt (scope ++ x.name.text ∷ [])) x.members
      → ItemsAt scope (member.Module (record { name = x.name; members = x.members; at = x.at; note = x.note }))
  module_closed scope x n h =
      subst (AllByRecursion P) (sym (module_gives scope (record { name = x.name; members = x.members; at = x.at; note = x.note })))
      (each_flat P (in_member (scope ++ x.name.text ∷ [])) x.members h)

  -- of what a file gives, with an insert in place of each include
  pub replaced_hold : (own : Members) (inserts : Inserts) → Hold own → AllByRecursion Hold inserts → Hold (replaced own inserts)
  replaced_hold own inserts h k =
      replaced_keep ItemsAt ItemsIn AnyName PartHolds MemberHolds (λ scope m. subst (AllByRecursion P) (items_rolled scope m)) module_opened module_closed component_parts component_again
      topology_members topology_again own inserts h k

  pub nothing_holds : (i : Inside) → Hold (nothing_in i)
  nothing_holds inside.Unit = λ scope. tt
  nothing_holds inside.Component = λ scope. tt
  nothing_holds inside.Topology = λ scope. tt

-- what holds holds of what it says of each item, of each part and of each member of a topology
pub hold_more : (P R : Item → Type 0) (law : Parting P) (other : Parting R) → ((i : Item) → P i → R i) → ((p : Part) → law.OfPart p → other.OfPart p)
    → ((t : TMember) → law.OfMember t → other.OfMember t) → (x : Members) → Hold P law x → Hold R other x
hold_more P R law other to on in_topologies (given.Unit ms) h = λ scope.
    each_weaker (ItemsAt P law scope) (ItemsAt R other scope) (λ m. each_weaker P R to (in_member scope m)) ms (h scope)
hold_more P R law other to on in_topologies (given.Component ps) h = λ scope.
    each_weaker (PartHolds P law scope) (PartHolds R other scope)
    (λ p q. (on p q.0, (each_weaker P R to (own_items scope p) q.1.0, each_weaker P R to (inner_items scope p) q.1.1))) ps (h scope)
hold_more P R law other to on in_topologies (given.Topology ts) h = λ scope.
    each_weaker (MemberHolds P law scope) (MemberHolds R other scope) (λ t q. (in_topologies t q.0, each_weaker P R to (topology_member_items scope t) q.1)) ts (h scope)

-- ---- names, whatever the scope

abbrev pub names_inside : Path → Module → List Name
names_inside scope m = fold-Module (List Name) (List Name) names_of_member names_of_module m

pub names_rolled : (scope : Path) (m : Module) → names_within (roll-Member (open_member.Module m)) ≡ names_inside scope m
names_rolled scope m = fold-roll-Member (List Name) (List Name) names_of_member names_of_module (open_member.Module m)

pub names_opened : (scope : Path) (x : Module-F Member Module) → names_inside scope (roll-Module x) ≡ x.name ∷ names_in x.members
names_opened scope x =
    fold-roll-Module (List Name) (List Name) names_of_member names_of_module x
    ∙ ap (λ (ns : List Name). x.name ∷ ns) (flat_map-map (λ (ns : List Name). ns) (fold-Member (List Name) (List Name) names_of_member names_of_module) x.members)

names_closed : (m : Module) → names_within (member.Module m) ≡ (out-Module m).name ∷ names_in (out-Module m).members
names_closed m =
    ap names_within (sym (rolls-Module m))
    ∙ fold-roll-Member (List Name) (List Name) names_of_member names_of_module (open_member.Module m)
    ∙ fold_out-Module (List Name) (List Name) names_of_member names_of_module m
    ∙ ap (λ (ns : List Name). (out-Module m).name ∷ ns) (flat_map-map (λ (ns : List Name). ns) names_within (out-Module m).members)

component_names : (c : Component) → names_within (member.Component c) ≡ names_in_component c
component_names c = ap names_within (sym (rolls-Component c)) ∙ fold-roll-Member (List Name) (List Name) names_of_member names_of_module (open_member.Component c)

topology_names : (t : Topology) → names_within (member.Topology t) ≡ names_in_topology t
topology_names t = ap names_within (sym (rolls-Topology t)) ∙ fold-roll-Member (List Name) (List Name) names_of_member names_of_module (open_member.Topology t)

module _ (N : Name → Type 0) where
  abbrev NamesAt : Path → Member → Type 0
  NamesAt scope m = AllByRecursion N (names_within m)

  abbrev NamesIn : Path → Module → Type 0
  NamesIn scope m = AllByRecursion N (names_inside scope m)

  abbrev PartNames : Path → Part → Type 0
  PartNames scope p = AllByRecursion N (names_in_part p)

  abbrev MemberNames : Path → TMember → Type 0
  MemberNames scope t = AllByRecursion N (names_in_topology_member t)

  -- all names in what a file gives
  abbrev pub HaveNames : Members → Type 0
  HaveNames x = HoldIn NamesAt NamesIn N PartNames MemberNames x

  names_of_component : (scope : Path) (c : Component) → NamesAt scope (member.Component c) → N c.name × AllByRecursion N (flat_map names_in_part c.parts)
  names_of_component scope c h = subst (AllByRecursion N) (component_names c) h

  module_names : (scope : Path) (x : Module-F Member Module) → NamesIn scope (roll-Module x) → N x.name × AllByRecursion (NamesAt (scope ++ x.name.text ∷ [])) x.members
  module_names scope x h =
      let all : AllByRecursion N (x.name ∷ names_in x.members) = subst (AllByRecursion N) (names_opened scope x) h in
      (all.0, each_part N names_within x.members all.1)

  module_named : (scope : Path) (x : Module-F Member Module) → N x.name → AllByRecursion (NamesAt (scope ++ x.name.text ∷ [])) x.members
      → NamesAt scope (member.Module (record { name = x.name; members = x.members; at = x.at; note = x.note }))
  module_named scope x n h =
      subst (AllByRecursion N) (sym (names_closed (record { name = x.name; members = x.members; at = x.at; note = x.note }))) (n, each_flat N names_within x.members h)

  component_named : (scope : Path) (c : Component) (ps : List Part) → NamesAt scope (member.Component c) → AllByRecursion (PartNames (scope ++ c.name.text ∷ [])) ps
      → NamesAt scope (member.Component (with_parts c ps))
  component_named scope c ps h k =
      subst (AllByRecursion N) (sym (component_names (with_parts c ps))) ((names_of_component scope c h).0, each_flat N names_in_part ps k)

  names_of_topology : (scope : Path) (t : Topology) → NamesAt scope (member.Topology t) → N t.name × AllByRecursion N (flat_map names_in_topology_member t.members)
  names_of_topology scope t h = subst (AllByRecursion N) (topology_names t) h

  topology_named : (scope : Path) (t : Topology) (ts : List TMember) → NamesAt scope (member.Topology t) → AllByRecursion (MemberNames scope) ts
      → NamesAt scope (member.Topology (with_members t ts))
  topology_named scope t ts h k =
      subst (AllByRecursion N) (sym (topology_names (with_members t ts))) ((names_of_topology scope t h).0, each_flat N names_in_topology_member ts k)

  -- of what a file gives, with an insert in place of each include
  pub replaced_names : (own : Members) (inserts : Inserts) → HaveNames own → AllByRecursion HaveNames inserts → HaveNames (replaced own inserts)
  replaced_names own inserts h k =
      replaced_keep NamesAt NamesIn N PartNames MemberNames (λ scope m. subst (AllByRecursion N) (names_rolled scope m)) module_names module_named
      (λ scope c q. each_part N names_in_part c.parts (names_of_component scope c q).1) component_named
      (λ scope t q. each_part N names_in_topology_member t.members (names_of_topology scope t q).1) topology_named own inserts h k
