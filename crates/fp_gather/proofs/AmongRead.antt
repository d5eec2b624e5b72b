-- What is broken in files that were read, or in their source, stands in one of them.
use Rattle.std.proofs.Common.{◌≡◌, ℕ, suc, ◌<◌, List, [], ◌∷◌, ◌++◌, length, flat_map, Option, inl, inr, sym, ap, subst, ◌∙◌, arith}
use Rattle.std.specs.List.{AllByRecursion, Contains}
use Rattle.std.proofs.lemmas.List.{length-map}
use Rattle.fp_base.specs.declared.place.Place.{Place}
use Rattle.fp_base.specs.declared.place.Span.{Span}
use Rattle.fp_base.specs.declared.refusal.Refusal.{Refusal}
use Rattle.fp_base.specs.declared.rule.Rule.{Rule}
use Rattle.fp_lexer.proofs.Rises.{spans_rise}
use Rattle.fp_lexer.specs.Tokens.{Lexed, Rising}
use Rattle.fp_lexer.specs.declared.token.Token.{Token}
use Rattle.fp_tree.specs.declared.component.Part.{Part}
use Rattle.fp_tree.specs.declared.topology.TMember.{TMember}
use Rattle.fp_tree.specs.declared.member.Include.{Include}
use Rattle.fp_tree.specs.declared.member.Member.{Member}
use Rattle.fp_meaning.specs.Broken.{BrokenByDefinitions, BrokenByUses, NamesBroken}
use Rattle.fp_meaning.specs.declared.item.Item.{Item}
use Rattle.fp_meaning.specs.Layout.{in_members, items}
use Rattle.fp_meaning.specs.Sites.{Path}
use Rattle.fp_places.specs.Places.{places_in_part, places_in_topology_member, places_of}
use Rattle.fp_meaning.specs.Names.{definitions, definitions_of, mentions, uses_of}
use Rattle.fp_meaning.specs.declared.names.Definition.{Definition}
use Rattle.fp_meaning.specs.declared.names.Mention.{Mention}
use Rattle.fp_outside.specs.declared.files.HeldFile.{HeldFile}
use Rattle.fp_parse_defs.specs.Reading.{BeginsAt}
use Rattle.fp_parse_parts.specs.Files.{SpellsFile}
use Rattle.fp_parse_parts.specs.Units.{BreaksInside, SpellsUnit, component_parts, topology_members}
use Rattle.fp_parse_parts.specs.declared.parsing.Inside.{Inside}
use Rattle.fp_parse_parts.specs.declared.parsing.Inside.TheVariants as inside
use Rattle.fp_parse_parts.specs.declared.parsing.Members.{Members}
use Rattle.fp_parse_parts.specs.declared.parsing.Members.TheVariants as given
use Rattle.fp_places.specs.Includes.{includes_in}
use Rattle.fp_places.specs.Sites.{BeginsToken, PartsStandAtTokens, StandAtTokens, TopologyStandsAtTokens, in_parts, in_topology}
use Rattle.fp_base.proofs.Lists.{each_before, each_behind, each_contained, each_flat, each_of_any, each_weaker, of_contained, of_item, each_part}
use Rattle.fp_gather.proofs.InclusionsStand.{of_members, of_parts, of_topology}
use Rattle.fp_gather.proofs.ItemsKept.{by_kind, units_items}
use Rattle.fp_gather.proofs.PartsHold.{Hold, members_hold, parts_hold, topology_holds}
use Rattle.fp_gather.proofs.StandBelow.{DefinesBelow, IncludesBelow, IsNumbered, PlacesBelow, StandBelow, UsesBelow, definers, files_below, none_below, placed_parts, users}
use Rattle.fp_gather.specs.gathering.Gathered.{AnyBroken, InFiles, StandsAmong, names_read, source_of}
use Rattle.fp_gather.specs.gathering.Reading.{Reading, BreaksGrammar, BreaksTokenRule, Gives, nothing_in}
use Rattle.fp_gather.specs.gathering.Walks.{Walked, Went, WalksFiles, nothing_read}

-- that what is broken stands in a file that was read, and that each place of an item does
abbrev pub InFilesRead : Type 0
InFilesRead =
    (told : Option (List HeldFile)) (names : List (List ℕ)) (walked : Walked) (units : List (List Member)) (f : Refusal)
    → WalksFiles told names nothing_read (Went walked units) → AnyBroken walked (source_of walked units) f → StandsAmong (names_read walked) f

abbrev pub PlacesInFiles : Type 0
PlacesInFiles =
    (told : Option (List HeldFile)) (names : List (List ℕ)) (walked : Walked) (units : List (List Member)) (i : Item) (place : Place)
    → WalksFiles told names nothing_read (Went walked units) → Contains (items (source_of walked units)) i → Contains (places_of i) place → place.file < length (names_read walked)

-- each place of what is given in a scope begins a token
abbrev PlacesBegin : List Token → (Path → List Item) → Type 0
PlacesBegin tokens given = (scope : Path) (i : Item) (place : Place) → Contains (given scope) i → Contains (places_of i) place → BeginsToken tokens place

-- ---- tokens

-- a token stands in a file
abbrev StandsIn : ℕ → Token → Type 0
StandsIn file t = (t.at.first.file ≡ file) × (t.at.past.file ≡ file)

rising_inside : (file : ℕ) (text : List ℕ) (from : ℕ) (ts : List Token) → Rising file text from ts → AllByRecursion (StandsIn file) ts
rising_inside file text from [] r = tt
rising_inside file text from (t ∷ ts) r =
    ((ap (λ (s : Span). s.first.file) r.4, ap (λ (s : Span). s.past.file) r.4), rising_inside file text r.1 ts r.5)

tokens_inside : (file : ℕ) (text : List ℕ) (tokens : List Token) → Lexed file text tokens → AllByRecursion (StandsIn file) tokens
tokens_inside file text tokens lexed = rising_inside file text 0 tokens (spans_rise file text tokens lexed)

begins_inside : (file : ℕ) (tokens : List Token) (place : Place) → AllByRecursion (StandsIn file) tokens → BeginsToken tokens place → place.file ≡ file
begins_inside file tokens place inside (t, there, is) = ap (λ (p : Place). p.file) is ∙ (of_contained (StandsIn file) tokens t inside there).0

-- where tokens break the grammar, one begins or ends
begins_at : (file : ℕ) (before rest : List Token) (place : Place) → AllByRecursion (StandsIn file) (before ++ rest) → BeginsAt before rest place → place.file ≡ file
begins_at file before (t ∷ rest) place inside is = ap (λ (p : Place). p.file) is ∙ (each_behind (StandsIn file) before (t ∷ rest) inside).0.0
begins_at file before [] place inside (front, t, cut, is) =
    let all : AllByRecursion (StandsIn file) (front ++ t ∷ []) = subst (λ (ts : List Token). AllByRecursion (StandsIn file) ts) cut (each_before (StandsIn file) before [] inside) in
    ap (λ (p : Place). p.file) is ∙ (each_behind (StandsIn file) front (t ∷ []) all).0.1

-- ---- one file

below_next : (m n : ℕ) → m ≡ n → m < suc n
below_next m n e = omega (arith, e)

-- what members and parts give, where what they give begins where a token begins
module _ (r : Reading) (tokens : List Token) (stand : AllByRecursion (StandsIn r.number) tokens) where
  below : (p : Place) → BeginsToken tokens p → p.file < suc r.number
  below p begins = below_next p.file r.number (begins_inside r.number tokens p stand begins)

  -- of these items
  defines : (is : List Item) → ((d : Definition) → Contains (flat_map definitions_of is) d → BeginsToken tokens d.place) → AllByRecursion (DefinesBelow (suc r.number)) is
  defines is h =
      each_part (λ (d : Definition). d.place.file < suc r.number) definitions_of is
      (each_contained (λ (d : Definition). d.place.file < suc r.number) (flat_map definitions_of is) (λ d there. below d.place (h d there)))

  mentions_there : (is : List Item) → ((m : Mention) → Contains (flat_map uses_of is) m → BeginsToken tokens m.place) → AllByRecursion (UsesBelow (suc r.number)) is
  mentions_there is h =
      each_part (λ (m : Mention). m.place.file < suc r.number) uses_of is
      (each_contained (λ (m : Mention). m.place.file < suc r.number) (flat_map uses_of is) (λ m there. below m.place (h m there)))

  places_there : (is : List Item) → ((i : Item) (p : Place) → Contains is i → Contains (places_of i) p → BeginsToken tokens p) → AllByRecursion (PlacesBelow (suc r.number)) is
  places_there is h = each_contained (PlacesBelow (suc r.number)) is
      (λ i there. each_contained (λ (p : Place). p.file < suc r.number) (places_of i) (λ p among. below p (h i p there among)))

  members_below : (ms : List Member) → StandAtTokens tokens ms → PlacesBegin tokens (λ scope. in_members scope ms) → StandBelow (suc r.number) (given.Unit ms) × IncludesBelow (suc r.number) (given.Unit ms)
  members_below ms sites placed = (
    record {
      definitions = members_hold (DefinesBelow (suc r.number)) (definers (suc r.number)) ms (λ scope. defines (in_members scope ms) (sites.definitions scope));
      mentions = members_hold (UsesBelow (suc r.number)) (users (suc r.number)) ms (λ scope. mentions_there (in_members scope ms) (sites.mentions scope));
      places = members_hold (PlacesBelow (suc r.number)) (placed_parts (suc r.number)) ms (λ scope. places_there (in_members scope ms) (placed scope));
    },
    of_members (suc r.number) ms []
        (each_contained (λ (i : Include). i.at.first.file < suc r.number) (includes_in ms) (λ i there. below i.at.first (sites.includes i there)))
        (places_there (in_members [] ms) (placed [])),
  )

  own_places : (ps : List Place) → ((p : Place) → Contains ps p → BeginsToken tokens p) → AllByRecursion (λ (p : Place). p.file < suc r.number) ps
  own_places ps own = each_contained (λ (p : Place). p.file < suc r.number) ps (λ p there. below p (own p there))

  parts_below : (ps : List Part) → PartsStandAtTokens tokens ps → ((p : Place) → Contains (flat_map places_in_part ps) p → BeginsToken tokens p) → PlacesBegin tokens (λ scope. in_parts scope ps)
      → StandBelow (suc r.number) (given.Component ps) × IncludesBelow (suc r.number) (given.Component ps)
  parts_below ps sites own placed =
      let places = own_places (flat_map places_in_part ps) own in
      let nothing = each_of_any (λ (p : Part). Unit {0}) (λ p. tt) ps in (
        record {
          definitions = parts_hold (DefinesBelow (suc r.number)) (definers (suc r.number)) ps nothing (λ scope. defines (in_parts scope ps) (sites.definitions scope));
          mentions = parts_hold (UsesBelow (suc r.number)) (users (suc r.number)) ps nothing (λ scope. mentions_there (in_parts scope ps) (sites.mentions scope));
          places = parts_hold (PlacesBelow (suc r.number)) (placed_parts (suc r.number)) ps (each_part (λ (p : Place). p.file < suc r.number) places_in_part ps places)
              (λ scope. places_there (in_parts scope ps) (placed scope));
        },
        of_parts (suc r.number) ps places,
      )

  topology_below : (ts : List TMember) → TopologyStandsAtTokens tokens ts → ((p : Place) → Contains (flat_map places_in_topology_member ts) p → BeginsToken tokens p) → PlacesBegin tokens (λ scope. in_topology scope ts)
      → StandBelow (suc r.number) (given.Topology ts) × IncludesBelow (suc r.number) (given.Topology ts)
  topology_below ts sites own placed =
      let places = own_places (flat_map places_in_topology_member ts) own in
      let nothing = each_of_any (λ (t : TMember). Unit {0}) (λ t. tt) ts in (
        record {
          definitions = topology_holds (DefinesBelow (suc r.number)) (definers (suc r.number)) ts nothing (λ scope. defines (in_topology scope ts) (sites.definitions scope));
          mentions = topology_holds (UsesBelow (suc r.number)) (users (suc r.number)) ts nothing (λ scope. mentions_there (in_topology scope ts) (sites.mentions scope));
          places = topology_holds (PlacesBelow (suc r.number)) (placed_parts (suc r.number)) ts (each_part (λ (p : Place). p.file < suc r.number) places_in_topology_member ts places)
              (λ scope. places_there (in_topology scope ts) (placed scope));
        },
        of_topology (suc r.number) ts places,
      )

-- what the laws below say of files of members and of files that are included in components and in topologies
pub record Begin : Type 0 where
  pub sites : (tokens : List Token) (ms : List Member) → SpellsUnit tokens ms → StandAtTokens tokens ms
  pub placed : (tokens : List Token) (ms : List Member) (scope : Path) (i : Item) (place : Place)
      → SpellsUnit tokens ms → Contains (in_members scope ms) i → Contains (places_of i) place → BeginsToken tokens place
  pub part_sites : (tokens : List Token) (ps : List Part) → SpellsFile component_parts tokens ps → PartsStandAtTokens tokens ps
  pub part_own : (tokens : List Token) (ps : List Part) (place : Place) → SpellsFile component_parts tokens ps → Contains (flat_map places_in_part ps) place → BeginsToken tokens place
  pub part_placed : (tokens : List Token) (ps : List Part) (scope : Path) (i : Item) (place : Place)
      → SpellsFile component_parts tokens ps → Contains (in_parts scope ps) i → Contains (places_of i) place → BeginsToken tokens place
  pub topology_sites : (tokens : List Token) (ts : List TMember) → SpellsFile topology_members tokens ts → TopologyStandsAtTokens tokens ts
  pub topology_own : (tokens : List Token) (ts : List TMember) (place : Place) → SpellsFile topology_members tokens ts → Contains (flat_map places_in_topology_member ts) place → BeginsToken tokens place
  pub topology_placed : (tokens : List Token) (ts : List TMember) (scope : Path) (i : Item) (place : Place)
      → SpellsFile topology_members tokens ts → Contains (in_topology scope ts) i → Contains (places_of i) place → BeginsToken tokens place

abbrev GiftBelow : ℕ → Members → Type 0
GiftBelow n x = StandBelow n x × IncludesBelow n x

none_given : (n : ℕ) (i : Inside) → GiftBelow n (nothing_in i)
none_given n inside.Unit = (none_below n inside.Unit, tt)
none_given n inside.Component = (none_below n inside.Component, tt)
none_given n inside.Topology = (none_below n inside.Topology, tt)

gift_below : Begin → (r : Reading) (x : Members) → Gives r x → GiftBelow (suc r.number) x
gift_below laws r x (inl (tokens, has, spelled)) =
    let stand = tokens_inside r.number r.text tokens has.lexed in
    by_kind (GiftBelow (suc r.number)) tokens
    (λ ms s. members_below r tokens stand ms (laws.sites tokens ms s) (λ scope i place there among. laws.placed tokens ms scope i place s there among))
    (λ ps s. parts_below r tokens stand ps (laws.part_sites tokens ps s) (λ p there. laws.part_own tokens ps p s there)
    (λ scope i place there among. laws.part_placed tokens ps scope i place s there among))
    (λ ts s. topology_below r tokens stand ts (laws.topology_sites tokens ts s) (λ p there. laws.topology_own tokens ts p s there)
    (λ scope i place there among. laws.topology_placed tokens ts scope i place s there among)) r.inside x spelled
gift_below laws r x (inr (broken, e)) = subst (GiftBelow (suc r.number)) (sym e) (none_given (suc r.number) r.inside)

broken_tokens : (r : Reading) (f : Refusal) → BreaksTokenRule r f → f.place.file ≡ r.number
broken_tokens r f (inl b) = ap (λ (p : Place). p.file) b.1.1
broken_tokens r f (inr b) = ap (λ (g : Refusal). g.place.file) b.0

-- whatever the tokens stand in
broken_inside : (file : ℕ) (tokens : List Token) (i : Inside) (rule : Rule) (place : Place) → AllByRecursion (StandsIn file) tokens → BreaksInside tokens i rule place → place.file ≡ file
broken_inside file tokens inside.Unit rule place stand (before, rest, broken, begins, is) =
    begins_at file before rest place (subst (λ (ts : List Token). AllByRecursion (StandsIn file) ts) broken.cut stand) begins
broken_inside file tokens inside.Component rule place stand (before, rest, broken, begins, is) =
    begins_at file before rest place (subst (λ (ts : List Token). AllByRecursion (StandsIn file) ts) broken.cut stand) begins
broken_inside file tokens inside.Topology rule place stand (before, rest, broken, begins, is) =
    begins_at file before rest place (subst (λ (ts : List Token). AllByRecursion (StandsIn file) ts) broken.cut stand) begins

broken_grammar : (r : Reading) (f : Refusal) → BreaksGrammar r f → f.place.file ≡ r.number
broken_grammar r f (tokens, has, other, broken) = broken_inside r.number tokens r.inside f.rule f.place (tokens_inside r.number r.text tokens has.lexed) broken

-- ---- names

module _ (n : ℕ) (walked : Walked) (units : List (List Member)) (under : AllByRecursion (λ (ms : List Member). StandBelow n (given.Unit ms)) units) where
  definitions_below : AllByRecursion (λ (d : Definition). d.place.file < n) (definitions (source_of walked units))
  definitions_below =
      each_flat (λ (d : Definition). d.place.file < n) definitions_of (items (source_of walked units))
      (units_items (DefinesBelow n) (definers n) units (each_weaker (λ (ms : List Member). StandBelow n (given.Unit ms)) (λ (ms : List Member). Hold (DefinesBelow n) (definers n) (given.Unit ms)) (λ ms q. q.definitions) units under))

  mentions_below : AllByRecursion (λ (m : Mention). m.place.file < n) (mentions (source_of walked units))
  mentions_below =
      each_flat (λ (m : Mention). m.place.file < n) uses_of (items (source_of walked units))
      (units_items (UsesBelow n) (users n) units (each_weaker (λ (ms : List Member). StandBelow n (given.Unit ms)) (λ (ms : List Member). Hold (UsesBelow n) (users n) (given.Unit ms)) (λ ms q. q.mentions) units under))

  below_as : (f : Refusal) (place : Place) → f.place ≡ place → place.file < n → f.place.file < n
  below_as f place e lt = subst (λ (p : Place). p.file < n) (sym e) lt

  broken_definition : (f : Refusal) → BrokenByDefinitions (source_of walked units) f → f.place.file < n
  broken_definition f (k, d, there, (is, earlier)) =
      below_as f d.place (ap (λ (g : Refusal). g.place) is)
      (of_item (λ (x : Definition). x.place.file < n) (definitions (source_of walked units)) k d definitions_below there)

  broken_use : (f : Refusal) → BrokenByUses (source_of walked units) f → f.place.file < n
  broken_use f (k, m, there, inl (is, nowhere)) =
      below_as f m.place (ap (λ (g : Refusal). g.place) is)
      (of_item (λ (x : Mention). x.place.file < n) (mentions (source_of walked units)) k m mentions_below there)
  broken_use f (k, m, there, inr (is, somewhere, wrong)) =
      below_as f m.place (ap (λ (g : Refusal). g.place) is)
      (of_item (λ (x : Mention). x.place.file < n) (mentions (source_of walked units)) k m mentions_below there)

  broken_names : (f : Refusal) → NamesBroken (source_of walked units) f → f.place.file < n
  broken_names f (inl b) = broken_definition f b
  broken_names f (inr b) = broken_use f b

-- ---- all files

in_files_below : (P : Reading → Refusal → Type 0) → ((r : Reading) (f : Refusal) → P r f → f.place.file ≡ r.number)
    → (walked : Walked) (f : Refusal) → IsNumbered walked → InFiles P walked f → f.place.file < length walked.readings
in_files_below P stands walked f num (r, there, b) =
    let same = stands r f b in
    let lt = of_contained (λ (q : Reading). q.number < length walked.readings) walked.readings r num.readings there in
    omega (arith, same, lt)

any_below : (walked : Walked) (units : List (List Member)) (f : Refusal) → IsNumbered walked → AllByRecursion (λ (ms : List Member). StandBelow (length walked.readings) (given.Unit ms)) units
    → AnyBroken walked (source_of walked units) f → f.place.file < length walked.readings
any_below walked units f num under (inl (inl b)) = in_files_below BreaksTokenRule broken_tokens walked f num b
any_below walked units f num under (inl (inr (inl b))) = in_files_below BreaksGrammar broken_grammar walked f num b
any_below walked units f num under (inl (inr (inr there))) =
    of_contained (λ (g : Refusal). g.place.file < length walked.readings) walked.refused f num.refused there
any_below walked units f num under (inr b) = broken_names (length walked.readings) walked units under f b

-- what the laws say that use this file's lemmas, where files read, numbered below their count, hold what they give
module _ (laws : Begin) where
  pub among_read : InFilesRead
  among_read told names walked units f walks broken =
      let all = files_below (gift_below laws) told names walked units walks in
      let lt = any_below walked units f all.0 all.1 broken in
      let long = length-map walked.readings (λ (r : Reading). r.name) in
      omega (arith, lt, long)

  pub places_among : PlacesInFiles
  places_among told names walked units i place walks there among =
      let all = files_below (gift_below laws) told names walked units walks in
      let n : ℕ = length walked.readings in
      let items_below : AllByRecursion (PlacesBelow n) (items (source_of walked units)) =
      units_items (PlacesBelow n) (placed_parts n) units (each_weaker (λ (ms : List Member). StandBelow n (given.Unit ms)) (λ (ms : List Member). Hold (PlacesBelow n) (placed_parts n) (given.Unit ms)) (λ ms q. q.places) units all.1) in
      let lt = of_contained (λ (p : Place). p.file < n) (places_of i) place (of_contained (PlacesBelow n) (items (source_of walked units)) i items_below there) among in
      let long = length-map walked.readings (λ (r : Reading). r.name) in
      omega (arith, lt, long)
