-- The files that includes stand for, and what stands in their places. FPP Language Specification, "Include Specifiers". An include stands for
-- members of what it stands in: of a file or a module, of a component, whose parts these are, or of a topology.
use Rattle.std.specs.Prelude.{ℕ, ◌-◌, ◌==◌, not, List, [], ◌∷◌, ◌++◌, length, take, map, flat_map}
use Rattle.std.specs.List.{suffix_len}
use Rattle.fp_parse_parts.specs.declared.parsing.Inside.TheVariants as inside
use Rattle.fp_parse_parts.specs.declared.parsing.Members.{Members}
use Rattle.fp_parse_parts.specs.declared.parsing.Members.TheVariants as given
use Rattle.fp_tree.specs.declared.component.Component.{Component}
use Rattle.fp_tree.specs.declared.component.Part.{Part}
use Rattle.fp_tree.specs.declared.component.Part.TheVariants as part
use Rattle.fp_tree.specs.declared.member.Include.{Include}
use Rattle.fp_tree.specs.declared.member.Member.{Member, Member-F, fold-Member}
use Rattle.fp_tree.specs.declared.member.Member.TheOpen as open_member
use Rattle.fp_tree.specs.declared.member.Member.TheVariants as member
use Rattle.fp_tree.specs.declared.member.Module.{Module, Module-F, fold-Module}
use Rattle.fp_tree.specs.declared.topology.TMember.{TMember}
use Rattle.fp_tree.specs.declared.topology.TMember.TheVariants as topology_member
use Rattle.fp_tree.specs.declared.topology.Topology.{Topology}
use Rattle.fp_gather.specs.declared.gathering.including.Inclusion.{Inclusion}

-- the directory part of a file's name: through its last `/`
abbrev pub directory : List ℕ → List ℕ
directory name = take (length name - suffix_len (λ b. not (b == 47)) name) name

-- that of the nearest of the files round an include
abbrev pub nearest_directory : List (List ℕ) → List ℕ
nearest_directory [] = []
nearest_directory (nearest ∷ round) = directory nearest

-- the name of the file that an include stands for, behind that directory part
abbrev pub included_name : List (List ℕ) → Include → List ℕ
included_name round i = nearest_directory round ++ i.file.text

-- ---- includes in what a file gives, in source order

abbrev pub inclusions_in_part : Part → List Inclusion
inclusions_in_part (part.Include i) = record { inside = inside.Component; include = i } ∷ []
inclusions_in_part _ = []

abbrev pub inclusions_in_topology_member : TMember → List Inclusion
inclusions_in_topology_member (topology_member.Include i) = record { inside = inside.Topology; include = i } ∷ []
inclusions_in_topology_member _ = []

abbrev pub inclusions_of_member : Member-F (List Inclusion) (List Inclusion) → List Inclusion
inclusions_of_member (open_member.Module inner) = inner
inclusions_of_member (open_member.Component c) = flat_map inclusions_in_part c.parts
inclusions_of_member (open_member.Topology t) = flat_map inclusions_in_topology_member t.members
inclusions_of_member (open_member.Include i) = record { inside = inside.Unit; include = i } ∷ []
inclusions_of_member _ = []

abbrev pub inclusions_of_module : Module-F (List Inclusion) (List Inclusion) → List Inclusion
inclusions_of_module m = flat_map (λ is. is) m.members

abbrev pub inclusions_within : Member → List Inclusion
inclusions_within m = fold-Member (List Inclusion) (List Inclusion) inclusions_of_member inclusions_of_module m

abbrev pub inclusions_in : Members → List Inclusion
inclusions_in (given.Unit ms) = flat_map inclusions_within ms
inclusions_in (given.Component ps) = flat_map inclusions_in_part ps
inclusions_in (given.Topology ts) = flat_map inclusions_in_topology_member ts

-- ---- what stands in their places

-- for each include what the file gives that it stands for
abbrev pub Inserts : Type 0
Inserts = List Members

-- what stands in place of something, and the inserts that are left for the includes behind it
pub record Placed (A : Type 0) : Type 0 where
  pub items : List A
  pub left : Inserts

-- one after another
abbrev pub in_turn : {A : Type 0} → List (Inserts → Placed A) → Inserts → Placed A
in_turn [] inserts = record { items = []; left = inserts }
in_turn (f ∷ fs) inserts =
    let here = f inserts in
    let behind = in_turn fs here.left in
    record { items = here.items ++ behind.items; left = behind.left }

abbrev pub members_of : Members → List Member
members_of (given.Unit ms) = ms
members_of _ = []

abbrev pub parts_of : Members → List Part
parts_of (given.Component ps) = ps
parts_of _ = []

abbrev pub topology_members_of : Members → List TMember
topology_members_of (given.Topology ts) = ts
topology_members_of _ = []

-- in place of an include stands the next insert
abbrev pub next_insert : {A : Type 0} → (Members → List A) → Inserts → Placed A
next_insert of [] = record { items = []; left = [] }
next_insert of (insert ∷ inserts) = record { items = of insert; left = inserts }

abbrev pub itself : {A : Type 0} → A → Inserts → Placed A
itself x inserts = record { items = x ∷ []; left = inserts }

abbrev pub placed_part : Part → Inserts → Placed Part
placed_part (part.Include i) inserts = next_insert parts_of inserts
placed_part p inserts = itself p inserts

abbrev pub placed_topology_member : TMember → Inserts → Placed TMember
placed_topology_member (topology_member.Include i) inserts = next_insert topology_members_of inserts
placed_topology_member m inserts = itself m inserts

abbrev pub placed_component : Component → Inserts → Placed Member
placed_component c inserts =
    let inner = in_turn (map placed_part c.parts) inserts in
    record { items = member.Component (record { kind = c.kind; name = c.name; parts = inner.items; at = c.at; note = c.note }) ∷ []; left = inner.left }

abbrev pub placed_topology : Topology → Inserts → Placed Member
placed_topology t inserts =
    let inner = in_turn (map placed_topology_member t.members) inserts in
    record { items = member.Topology (record { name = t.name; members = inner.items; at = t.at; note = t.note }) ∷ []; left = inner.left }

abbrev pub place_in_member : Member-F (Inserts → Placed Member) (Inserts → Placed Member) → Inserts → Placed Member
place_in_member (open_member.Module m) inserts = m inserts
place_in_member (open_member.Def d) inserts = itself (member.Def d) inserts
place_in_member (open_member.Machine m) inserts = itself (member.Machine m) inserts
place_in_member (open_member.Component c) inserts = placed_component c inserts
place_in_member (open_member.Interface f) inserts = itself (member.Interface f) inserts
place_in_member (open_member.Instance n) inserts = itself (member.Instance n) inserts
place_in_member (open_member.Topology t) inserts = placed_topology t inserts
place_in_member (open_member.Include i) inserts = next_insert members_of inserts
place_in_member (open_member.Locate l) inserts = itself (member.Locate l) inserts

abbrev pub place_in_module : Module-F (Inserts → Placed Member) (Inserts → Placed Member) → Inserts → Placed Member
place_in_module m inserts =
    let inner = in_turn m.members inserts in
    record { items = member.Module (record { name = m.name; members = inner.items; at = m.at; note = m.note }) ∷ []; left = inner.left }

abbrev pub placed : Member → Inserts → Placed Member
placed m = fold-Member (Inserts → Placed Member) (Inserts → Placed Member) place_in_member place_in_module m

abbrev pub placed_module : Module → Inserts → Placed Member
placed_module m = fold-Module (Inserts → Placed Member) (Inserts → Placed Member) place_in_member place_in_module m

-- what a file gives, with an insert in place of each include, also of those in modules, components and topologies
abbrev pub replaced : Members → Inserts → Members
replaced (given.Unit ms) inserts = given.Unit (in_turn (map placed ms) inserts).items
replaced (given.Component ps) inserts = given.Component (in_turn (map placed_part ps) inserts).items
replaced (given.Topology ts) inserts = given.Topology (in_turn (map placed_topology_member ts) inserts).items
