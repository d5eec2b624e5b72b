-- The places of the items of a member of a file, in any scope, are such where tokens begin.
use Rattle.std.proofs.Common.{◌≡◌, ℕ, zero, suc, List, [], ◌∷◌, ◌++◌, flat_map, subst, sym, refl}
use Rattle.std.specs.List.{AllByRecursion as Each, Contains}
use Rattle.fp_base.specs.declared.place.Place.{Place}
use Rattle.fp_base.specs.declared.place.Span.{Span}
use Rattle.fp_lexer.specs.declared.token.Token.{Token}
use Rattle.fp_tree.specs.declared.name.Name.{Name}
use Rattle.fp_tree.specs.declared.name.Qual.{Qual}
use Rattle.fp_tree.specs.declared.name.Str.{Str}
use Rattle.fp_tree.specs.declared.component.Part.{Part}
use Rattle.fp_tree.specs.declared.member.Member.{Member}
use Rattle.fp_tree.specs.declared.topology.TMember.{TMember}
use Rattle.fp_tree.specs.declared.member.Module.{Module, out-Module}
use Rattle.fp_tree.specs.declared.member.Member.TheVariants as node
use Rattle.fp_meaning.specs.declared.item.Item.{Item}
use Rattle.fp_meaning.specs.Sites.{Path}
use Rattle.fp_meaning.specs.Layout.{in_member, in_members}
use Rattle.fp_meaning.proofs.Walks.{module_gives, definition_gives, include_gives, locate_gives}
use Rattle.fp_grammar.specs.Grammar.{Language}
use Rattle.fp_parse_pieces.specs.Kinds.{k_open_brace}
use Rattle.fp_parse_pieces.specs.Lists.{joined, or_none}
use Rattle.fp_parse_defs.specs.Definitions.{definition}
use Rattle.fp_parse_defs.specs.Reading.{limit}
use Rattle.fp_parse_parts.specs.declared.bare.BareMember.{BareMember}
use Rattle.fp_parse_parts.specs.declared.bare.BareMember.TheVariants as bare
use Rattle.fp_parse_parts.specs.declared.bare.ModelMember.{ModelMember}
use Rattle.fp_parse_parts.specs.Members.{semicolons, definition_begins, definition_goes_on, definition_member, made_include, include, made_locate, locate, model_member, noted_definition, noted_member, with_member, member_of, members_of, made_module, module_of, modules, members}
use Rattle.fp_parse_parts.specs.Files.{SpellsFile}
use Rattle.fp_parse_parts.specs.Units.{SpellsUnit, component_parts, topology_members}
use Rattle.fp_base.proofs.Lists.{each_contained, each_flat, each_push, each_weaker, of_contained}
use Rattle.fp_places.specs.Sites.{BeginsToken, in_parts, in_topology}
use Rattle.fp_places.proofs.SiteComponents.{parts_given}
use Rattle.fp_places.proofs.SiteTopologies.{members_given}
use Rattle.fp_places.proofs.Preserving.{LanguageGives, gives_anything, gives_map, gives_seq, gives_alt, gives_optional, gives_ref, gives_seal, gives_after}
use Rattle.fp_places.proofs.Lists.{each_or_none, gives_some_of}
use Rattle.fp_places.proofs.Models.{ModelSaid, models_yield}
use Rattle.fp_places.specs.Places.{places_in_part, places_in_topology_member, places_of}
use Rattle.fp_places.proofs.Components.{parts_yield}
use Rattle.fp_places.proofs.Topologies.{members_yield as topology_yield}
use Rattle.fp_places.proofs.Tokens.{Begins, Yields}
use Rattle.fp_places.proofs.Begun.{begun}
use Rattle.fp_places.proofs.Definitions.{StandOf, definition_placed, definition_yields}

module _ (G : Place → Type 0) (expressions : ℕ) where
  abbrev Given : List Item → Type 0
  Given is = Each (StandOf G) is

  -- a member, in any scope
  abbrev pub Placed : Member → Type 0
  Placed m = (scope : Path) → Given (in_member scope m)

  -- and in any annotation
  abbrev PlacedBare : BareMember → Type 0
  PlacedBare m = (note : List ℕ) → Placed (noted_member m note)

  same : (is js : List Item) → is ≡ js → Given js → Given is
  same is js e h = subst Given (sym e) h

  pub all_placed : (ms : List Member) → Each Placed ms → (scope : Path) → Given (in_members scope ms)
  all_placed ms hs scope = each_flat (StandOf G) (in_member scope) ms (each_weaker Placed (λ m. Given (in_member scope m)) (λ m h. h scope) ms hs)

  module_placed : (m : Module) → Each Placed (out-Module m).members → Placed (node.Module m)
  module_placed m hs scope = same _ _ (module_gives scope m) (all_placed (out-Module m).members hs (scope ++ (out-Module m).name.text ∷ []))

  definition_member_yields : Yields G (definition_member expressions) PlacedBare
  definition_member_yields = gives_map PlacedBare bare.Def
      (λ d h note scope. same _ _ (definition_gives scope (noted_definition d note)) (definition_placed G scope (noted_definition d note) (h note)))
      (gives_seal {a = definition expressions} definition_begins definition_goes_on (definition_yields G expressions))

  model_placed : (m : ModelMember) → ModelSaid (begun G expressions) m → PlacedBare (bare.Model m)
  unfolding begun
  model_placed m h note = (h note).items

  model_member_yields : Yields G (model_member expressions) PlacedBare
  unfolding begun
  model_member_yields = gives_map PlacedBare bare.Model model_placed (models_yield (begun G expressions))

  include_placed : (p : Span × Str) → Unit {0} → PlacedBare (made_include p)
  include_placed (at, file) h note scope = same _ _ (include_gives scope _) tt

  include_yields : Yields G include PlacedBare
  include_yields = gives_map PlacedBare made_include include_placed gives_anything

  locate_placed : (p : Span × (Qual × (Span × Str))) → Unit {0} → PlacedBare (made_locate p)
  locate_placed (at, (of, (before_file, file))) h note scope = same _ _ (locate_gives scope _) tt

  locate_yields : Yields G locate PlacedBare
  locate_yields = gives_map PlacedBare made_locate locate_placed gives_anything

  moduled_placed : (p : Span × (Name × (List Member × Span))) → Unit {0} × (Unit {0} × (Each Placed p.1.1.0 × Unit {0})) → PlacedBare (made_module p)
  moduled_placed (at, (name, (inner, closing))) h note = module_placed _ h.1.1.0

  -- of what modules are
  abbrev PlacedAll : Language Token BareMember → Type 0
  PlacedAll language = LanguageGives (Begins G) language PlacedBare

  member_yields : (inner : Language Token BareMember) → PlacedAll inner → Yields G (member_of expressions inner) PlacedBare
  member_yields inner given =
      gives_alt (gives_ref _ given) (gives_alt include_yields (gives_alt locate_yields (gives_alt definition_member_yields model_member_yields)))

  members_yield : (inner : Language Token BareMember) → PlacedAll inner → Yields G (members_of expressions inner) (Each Placed)
  members_yield inner given = gives_map (Each Placed) or_none (each_or_none Placed)
      (gives_optional (gives_some_of PlacedBare (Each Placed) with_member (λ ms m lines h k. each_push Placed ms (noted_member m (joined lines)) h (k (joined lines))) semicolons [] tt (member_yields inner given)))

  module_yields : (inner : Language Token BareMember) → PlacedAll inner → Yields G (module_of expressions inner) PlacedBare
  module_yields inner given =
      gives_map PlacedBare made_module moduled_placed
      (gives_seq gives_anything (gives_seq gives_anything (gives_after k_open_brace (gives_seq (members_yield inner given) gives_anything))))

  modules_placed : (depth : ℕ) → PlacedAll (modules expressions depth)
  modules_placed zero = λ w m s h. absurd s
  modules_placed (suc depth) = (module_yields (modules expressions depth) (modules_placed depth)).given

  pub all_yield : (depth : ℕ) → Yields G (members expressions depth) (Each Placed)
  all_yield depth = members_yield (modules expressions depth) (modules_placed depth)

-- each token begins where it does
all_begin : (tokens : List Token) → Each (Begins (BeginsToken tokens)) tokens
all_begin tokens = each_contained (Begins (BeginsToken tokens)) tokens (λ t there. (t, there, refl))

pub placing : (tokens : List Token) (ms : List Member) (scope : Path) (i : Item) (place : Place)
    → SpellsUnit tokens ms → Contains (in_members scope ms) i → Contains (places_of i) place → BeginsToken tokens place
placing tokens ms scope i place spelled there among =
    let all = (all_yield (BeginsToken tokens) limit limit).given tokens ms spelled (all_begin tokens) in
    of_contained (BeginsToken tokens) (places_of i) place
    (of_contained (StandOf (BeginsToken tokens)) (in_members scope ms) i (all_placed (BeginsToken tokens) limit ms all scope) there) among

pub placing_own : (tokens : List Token) (ps : List Part) (place : Place) → SpellsFile component_parts tokens ps → Contains (flat_map places_in_part ps) place → BeginsToken tokens place
placing_own tokens ps place spelled there =
    of_contained (BeginsToken tokens) (flat_map places_in_part ps) place
    (each_flat (BeginsToken tokens) places_in_part ps ((parts_yield (BeginsToken tokens) limit).given tokens ps spelled (all_begin tokens))) there

parts_placed : (tokens : List Token) (ps : List Part) → SpellsFile component_parts tokens ps → (scope : Path) → Each (StandOf (BeginsToken tokens)) (in_parts scope ps)
unfolding begun
parts_placed tokens ps spelled = ((parts_given (begun (BeginsToken tokens) limit)).given tokens ps spelled (all_begin tokens)).items

pub placing_given : (tokens : List Token) (ps : List Part) (scope : Path) (i : Item) (place : Place)
    → SpellsFile component_parts tokens ps → Contains (in_parts scope ps) i → Contains (places_of i) place → BeginsToken tokens place
placing_given tokens ps scope i place spelled there among =
    of_contained (BeginsToken tokens) (places_of i) place (of_contained (StandOf (BeginsToken tokens)) (in_parts scope ps) i (parts_placed tokens ps spelled scope) there) among

pub placing_topology : (tokens : List Token) (ts : List TMember) (place : Place) → SpellsFile topology_members tokens ts → Contains (flat_map places_in_topology_member ts) place → BeginsToken tokens place
placing_topology tokens ts place spelled there =
    of_contained (BeginsToken tokens) (flat_map places_in_topology_member ts) place
    (each_flat (BeginsToken tokens) places_in_topology_member ts ((topology_yield (BeginsToken tokens) limit).given tokens ts spelled (all_begin tokens))) there

topology_placed : (tokens : List Token) (ts : List TMember) → SpellsFile topology_members tokens ts → (scope : Path) → Each (StandOf (BeginsToken tokens)) (in_topology scope ts)
unfolding begun
topology_placed tokens ts spelled = ((members_given (begun (BeginsToken tokens) limit)).given tokens ts spelled (all_begin tokens)).items

pub placing_topology_given : (tokens : List Token) (ts : List TMember) (scope : Path) (i : Item) (place : Place)
    → SpellsFile topology_members tokens ts → Contains (in_topology scope ts) i → Contains (places_of i) place → BeginsToken tokens place
placing_topology_given tokens ts scope i place spelled there among =
    of_contained (BeginsToken tokens) (places_of i) place (of_contained (StandOf (BeginsToken tokens)) (in_topology scope ts) i (topology_placed tokens ts spelled scope) there) among
