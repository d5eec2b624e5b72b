-- What holds of each item of what the tokens of a file spell, holds of each item of a source that is gathered.
use Rattle.std.proofs.Common.{ℕ, List, [], ◌∷◌, flat_map, map, Option, inl, inr, sym, subst}
use Rattle.std.specs.List.{AllByRecursion, Contains}
use Rattle.fp_base.proofs.Lists.{each_append, each_contained, each_of_any}
use Rattle.fp_lexer.specs.Tokens.{Lexed}
use Rattle.fp_lexer.specs.declared.token.Token.{Token}
use Rattle.fp_outside.specs.declared.files.HeldFile.{HeldFile}
use Rattle.fp_parse_parts.specs.Files.{SpellsFile}
use Rattle.fp_parse_parts.specs.Units.{SpellsInside, SpellsUnit, component_parts, topology_members}
use Rattle.fp_parse_parts.specs.declared.parsing.Inside.{Inside}
use Rattle.fp_parse_parts.specs.declared.parsing.Inside.TheVariants as inside
use Rattle.fp_parse_parts.specs.declared.parsing.Members.{Members}
use Rattle.fp_parse_parts.specs.declared.parsing.Members.TheVariants as given
use Rattle.fp_tree.specs.declared.component.Component.{Component}
use Rattle.fp_tree.specs.declared.component.Part.{Part}
use Rattle.fp_tree.specs.declared.member.Member.{Member}
use Rattle.fp_tree.specs.declared.member.Unit.{Unit as File}
use Rattle.fp_tree.specs.declared.topology.TMember.{TMember}
use Rattle.fp_tree.specs.declared.topology.Topology.{Topology}
use Rattle.fp_meaning.specs.declared.item.Item.{Item}
use Rattle.fp_meaning.specs.declared.item.Item.TheVariants as item
use Rattle.fp_meaning.specs.Sites.{Naming, Path, Placed as Expressed, component, declaration, topology}
use Rattle.fp_meaning.specs.Layout.{in_members, items, topology_member_items}
use Rattle.fp_meaning.proofs.Since.{AllSince, since_each, since_topology}
use Rattle.fp_places.specs.Sites.{in_parts, in_topology}
use Rattle.fp_gather.proofs.KeptByWalks.{units_kept}
use Rattle.fp_gather.proofs.PartsHold.{Hold, Parting, held_members, members_hold, nothing_holds, parts_hold, replaced_hold, topology_holds, unparted}
use Rattle.fp_gather.proofs.PartsKept.{with_members, with_parts}
use Rattle.fp_gather.specs.gathering.Gathered.{file_of, source_of}
use Rattle.fp_gather.specs.gathering.Reading.{Reading, Gives, nothing_in}
use Rattle.fp_gather.specs.gathering.Walks.{Walked, Went, WalksFiles, nothing_read}

-- of what tokens spell, where it holds of each kind of it
pub by_kind : (K : Members → Type 0) (tokens : List Token) → ((ms : List Member) → SpellsUnit tokens ms → K (given.Unit ms))
    → ((ps : List Part) → SpellsFile component_parts tokens ps → K (given.Component ps)) → ((ts : List TMember) → SpellsFile topology_members tokens ts → K (given.Topology ts))
    → (i : Inside) (x : Members) → SpellsInside tokens i x → K x
by_kind K tokens unit parts listed inside.Unit (given.Unit ms) s = unit ms s
by_kind K tokens unit parts listed inside.Unit (given.Component ps) s = absurd s
by_kind K tokens unit parts listed inside.Unit (given.Topology ts) s = absurd s
by_kind K tokens unit parts listed inside.Component (given.Unit ms) s = absurd s
by_kind K tokens unit parts listed inside.Component (given.Component ps) s = parts ps s
by_kind K tokens unit parts listed inside.Component (given.Topology ts) s = absurd s
by_kind K tokens unit parts listed inside.Topology (given.Unit ms) s = absurd s
by_kind K tokens unit parts listed inside.Topology (given.Component ps) s = absurd s
by_kind K tokens unit parts listed inside.Topology (given.Topology ts) s = listed ts s

-- of what a file gives, where it holds of what its tokens spell, and of nothing
pub file_given : (K : Members → Type 0) → ((i : Inside) → K (nothing_in i))
    → ((file : ℕ) (text : List ℕ) (tokens : List Token) (i : Inside) (x : Members) → Lexed file text tokens → SpellsInside tokens i x → K x)
    → (r : Reading) (x : Members) → Gives r x → K x
file_given K none spelled r x (inl (tokens, has, s)) = spelled r.number r.text tokens r.inside x has.lexed s
file_given K none spelled r x (inr (broken, e)) = subst K (sym e) (none r.inside)

-- of the items of units
pub units_items : (P : Item → Type 0) (law : Parting P) (units : List (List Member)) → AllByRecursion (λ (ms : List Member). Hold P law (given.Unit ms)) units
    → AllByRecursion P (flat_map (λ (u : File). in_members [] u.members) (map file_of units))
units_items P law [] h = tt
units_items P law (ms ∷ units) h =
    each_append P (in_members [] ms) (flat_map (λ (u : File). in_members [] u.members) (map file_of units)) (held_members P law ms h.0 []) (units_items P law units h.1)

-- where it is said of parts of components and of members of topologies too
pub items_kept : (P : Item → Type 0) (law : Parting P)
    → ((tokens : List Token) (ms : List Member) → SpellsUnit tokens ms → (scope : Path) → AllByRecursion P (in_members scope ms))
    → ((tokens : List Token) (ps : List Part) → SpellsFile component_parts tokens ps → AllByRecursion law.OfPart ps × ((scope : Path) → AllByRecursion P (in_parts scope ps)))
    → ((tokens : List Token) (ts : List TMember) → SpellsFile topology_members tokens ts → AllByRecursion law.OfMember ts × ((scope : Path) → AllByRecursion P (in_topology scope ts)))
    → (told : Option (List HeldFile)) (names : List (List ℕ)) (walked : Walked) (units : List (List Member))
    → WalksFiles told names nothing_read (Went walked units) → AllByRecursion P (items (source_of walked units))
items_kept P law unit parts topologies told names walked units h =
    units_items P law units
    (units_kept (Hold P law) (nothing_holds P law) (replaced_hold P law)
    (file_given (Hold P law) (nothing_holds P law) (λ file text tokens i x lexed s.
    by_kind (Hold P law) tokens (λ ms q. members_hold P law ms (unit tokens ms q)) (λ ps q. let has = parts tokens ps q in parts_hold P law ps has.0 has.1)
    (λ ts q. let has = topologies tokens ts q in topology_holds P law ts has.0 has.1) i x s))
    told names walked units h)

-- it holds of each item of what the tokens of a file spell, of a file of members and of one that is included in a component
abbrev pub MembersGive : (Item → Type 0) → Type 0
MembersGive P = (tokens : List Token) (ms : List Member) → SpellsUnit tokens ms → (scope : Path) (i : Item) → Contains (in_members scope ms) i → P i

abbrev pub PartsGive : (Item → Type 0) → Type 0
PartsGive P = (tokens : List Token) (ps : List Part) → SpellsFile component_parts tokens ps → (scope : Path) (i : Item) → Contains (in_parts scope ps) i → P i

-- names and expressions are such items
quiet_hold : (P : Item → Type 0) → ((since : ℕ) (n : Naming) → P (item.Used since n)) → ((since : ℕ) (p : Expressed) → P (item.Written since p))
    → (since : ℕ) (is : List Item) → AllSince since is → AllByRecursion P is
quiet_hold P used written since [] h = tt
quiet_hold P used written since (item.Used m n ∷ is) h = (used m n, quiet_hold P used written since is h.1)
quiet_hold P used written since (item.Written m p ∷ is) h = (written m p, quiet_hold P used written since is h.1)
quiet_hold P used written since (item.Defined s ∷ is) h = absurd h
quiet_hold P used written since (item.Enumerated e ∷ is) h = absurd h
quiet_hold P used written since (item.Declared d ∷ is) h = absurd h

-- where it holds of each component and of each topology, whatever is included in it, and of each name and each expression
pub items_have : (P : Item → Type 0) → ((scope : Path) (c : Component) → P (item.Declared (declaration scope (component c))))
    → ((scope : Path) (t : Topology) → P (item.Declared (declaration scope (topology t))))
    → ((since : ℕ) (n : Naming) → P (item.Used since n)) → ((since : ℕ) (p : Expressed) → P (item.Written since p)) → MembersGive P → PartsGive P
    → (told : Option (List HeldFile)) (names : List (List ℕ)) (walked : Walked) (units : List (List Member))
    → WalksFiles told names nothing_read (Went walked units) → AllByRecursion P (items (source_of walked units))
items_have P components topologies used written members parts =
    items_kept P (unparted P (λ scope c ps h. components scope (with_parts c ps)) (λ scope t ts h. topologies scope (with_members t ts)))
    (λ tokens ms s scope. each_contained P (in_members scope ms) (members tokens ms s scope))
    (λ tokens ps s. (each_of_any (λ p. Unit {0}) (λ p. tt) ps, λ scope. each_contained P (in_parts scope ps) (parts tokens ps s scope)))
    (λ tokens ts s. (each_of_any (λ t. Unit {0}) (λ t. tt) ts, λ scope. quiet_hold P used written 0 (in_topology scope ts) (since_each (topology_member_items scope) (since_topology scope) ts)))
