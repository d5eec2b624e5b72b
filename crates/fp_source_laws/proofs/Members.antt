-- The members of a file, and those in modules, have enumerations with constants.
use Rattle.std.proofs.Common.{◌≡◌, ℕ, zero, suc, List, [], ◌∷◌, ◌++◌, Contains, subst, sym}
use Rattle.std.specs.List.{AllByRecursion as Each}
use Rattle.fp_base.proofs.Lists.{each_flat, each_of_any, each_push, each_weaker, of_contained}
use Rattle.fp_base.specs.declared.place.Span.{Span}
use Rattle.fp_lexer.specs.declared.token.Token.{Token}
use Rattle.fp_tree.specs.declared.name.Name.{Name}
use Rattle.fp_tree.specs.declared.name.Qual.{Qual}
use Rattle.fp_tree.specs.declared.name.Str.{Str}
use Rattle.fp_tree.specs.declared.definition.Def.{Def}
use Rattle.fp_tree.specs.declared.component.Part.{Part}
use Rattle.fp_tree.specs.declared.member.Member.{Member}
use Rattle.fp_tree.specs.declared.member.Module.{Module, out-Module}
use Rattle.fp_tree.specs.declared.member.Member.TheVariants as node
use Rattle.fp_meaning.specs.declared.item.Item.{Item}
use Rattle.fp_meaning.specs.Sites.{Path}
use Rattle.fp_meaning.specs.Layout.{in_member, in_members, items_in}
use Rattle.fp_meaning.proofs.Walks.{module_gives, definition_gives, include_gives, locate_gives}
use Rattle.fp_grammar.specs.Grammar.{Language}
use Rattle.fp_parse_pieces.specs.Kinds.{k_open_brace, k_close_brace}
use Rattle.fp_parse_pieces.specs.Lists.{joined, or_none}
use Rattle.fp_parse_defs.specs.Definitions.{definition}
use Rattle.fp_parse_defs.specs.Reading.{limit}
use Rattle.fp_parse_pieces.specs.Words as words
use Rattle.fp_parse_parts.specs.declared.bare.BareMember.{BareMember}
use Rattle.fp_parse_parts.specs.declared.bare.BareMember.TheVariants as bare
use Rattle.fp_parse_parts.specs.Members.{k_module, semicolons, definition_begins, definition_goes_on, definition_member, made_include, include, made_locate, locate, model_member, noted_definition, noted_member, with_member, member_of, members_of, made_module, modules, members}
use Rattle.fp_parse_parts.specs.Files.{SpellsFile}
use Rattle.fp_parse_parts.specs.Units.{SpellsUnit, component_parts}
use Rattle.fp_places.specs.Sites.{in_parts}
use Rattle.fp_places.proofs.SiteComponents.{parts_given}
use Rattle.fp_places.proofs.Preserving.{LanguageGives, gives_anything, gives_map, gives_seq, gives_alt, gives_optional, gives_ref, gives_seal, gives_after}
use Rattle.fp_places.proofs.Lists.{each_or_none, gives_some_of}
use Rattle.fp_places.proofs.Models.{models_yield}
use Rattle.fp_places.proofs.Anything.{AnyToken}
use Rattle.fp_places.proofs.Depths.{Yields}
use Rattle.fp_source_types.specs.Listed.{HasConstants, IsListed}
use Rattle.fp_source_laws.proofs.EnumConstants.{definition_yields}
use Rattle.fp_source_laws.proofs.Having.{definition_listed, having}

-- ---- what a member gives

-- all enumerations among items have constants
abbrev AreListed : List Item → Type 0
AreListed is = Each IsListed is

-- a member gives such items, in any scope
abbrev Holds : Member → Type 0
Holds m = (scope : Path) → AreListed (in_member scope m)

-- and in any annotation
abbrev HoldsNoted : BareMember → Type 0
HoldsNoted b = (note : List ℕ) → Holds (noted_member b note)

same_listed : (is js : List Item) → is ≡ js → AreListed js → AreListed is
same_listed is js e h = subst AreListed (sym e) h

all_hold : (ms : List Member) → Each Holds ms → (scope : Path) → AreListed (in_members scope ms)
all_hold ms hs scope = each_flat IsListed (in_member scope) ms (each_weaker Holds (λ m. AreListed (in_member scope m)) (λ m h. h scope) ms hs)

definition_holds : (d : Def) → HasConstants d → Holds (node.Def d)
definition_holds d has scope =
    same_listed (in_member scope (node.Def d)) (items_in scope d) (definition_gives scope d) (definition_listed scope d has)

module_holds : (m : Module) → Each Holds (out-Module m).members → Holds (node.Module m)
module_holds m hs scope = same_listed _ _ (module_gives scope m) (all_hold (out-Module m).members hs (scope ++ (out-Module m).name.text ∷ []))

include_holds : (p : Span × Str) → Unit {0} → HoldsNoted (made_include p)
include_holds (at, file) h note scope = same_listed _ _ (include_gives scope _) tt

locate_holds : (p : Span × (Qual × (Span × Str))) → Unit {0} → HoldsNoted (made_locate p)
locate_holds (at, (of, (before_file, file))) h note scope = same_listed _ _ (locate_gives scope _) tt

opened_holds : (p : Span × (Name × (List Member × Span))) → Unit {0} × (Unit {0} × (Each Holds p.1.1.0 × Unit {0})) → HoldsNoted (made_module p)
opened_holds (at, (name, (inner, closing))) h note = module_holds _ h.1.1.0

-- ---- what the grammar gives

include_yields : Yields include HoldsNoted
include_yields = gives_map HoldsNoted made_include include_holds gives_anything

locate_yields : Yields locate HoldsNoted
locate_yields = gives_map HoldsNoted made_locate locate_holds gives_anything

definition_member_yields : (expressions : ℕ) → Yields (definition_member expressions) HoldsNoted
definition_member_yields expressions =
    gives_map HoldsNoted bare.Def (λ d h note. definition_holds (noted_definition d note) (h note))
    (gives_seal {a = definition expressions} definition_begins definition_goes_on (definition_yields expressions))

model_yields : (expressions : ℕ) → Yields (model_member expressions) HoldsNoted
unfolding having
model_yields expressions = gives_map HoldsNoted bare.Model (λ m h note. (h note).items) (models_yield (having expressions))

module _ (expressions : ℕ) where
  member_yields : (inner : Language Token BareMember) → LanguageGives AnyToken inner HoldsNoted → Yields (member_of expressions inner) HoldsNoted
  member_yields inner given =
      gives_alt (gives_ref _ given) (gives_alt include_yields (gives_alt locate_yields (gives_alt (definition_member_yields expressions) (model_yields expressions))))

  members_yield : (inner : Language Token BareMember) → LanguageGives AnyToken inner HoldsNoted → Yields (members_of expressions inner) (Each Holds)
  members_yield inner given =
      gives_map (Each Holds) or_none (each_or_none Holds)
      (gives_optional (gives_some_of HoldsNoted (Each Holds) with_member (λ ms m lines h k. each_push Holds ms (noted_member m (joined lines)) h (k (joined lines))) semicolons [] tt
      (member_yields inner given)))

  modules_yield : (depth : ℕ) → LanguageGives AnyToken (modules expressions depth) HoldsNoted
  modules_yield zero = λ w m s h. absurd s
  modules_yield (suc depth) =
      (gives_map HoldsNoted made_module opened_holds
      (gives_seq {a = words.at k_module} gives_anything (gives_seq {a = words.name} gives_anything (gives_after k_open_brace
      (gives_seq {b = words.at k_close_brace} (members_yield (modules expressions depth) (modules_yield depth)) gives_anything))))).given

  all_yield : (depth : ℕ) → Yields (members expressions depth) (Each Holds)
  all_yield depth = members_yield (modules expressions depth) (modules_yield depth)

pub all_listed : (tokens : List Token) (ms : List Member) → SpellsUnit tokens ms → (scope : Path) (i : Item) → Contains (in_members scope ms) i → IsListed i
all_listed tokens ms spelled scope i there =
    let hold = (all_yield limit limit).given tokens ms spelled (each_of_any AnyToken (λ t. tt) tokens) in
    of_contained IsListed (in_members scope ms) i (all_hold ms hold scope) there

parts_hold : (tokens : List Token) (ps : List Part) → SpellsFile component_parts tokens ps → (scope : Path) → Each IsListed (in_parts scope ps)
unfolding having
parts_hold tokens ps spelled = ((parts_given (having limit)).given tokens ps spelled (each_of_any AnyToken (λ t. tt) tokens)).items

pub parts_listed : (tokens : List Token) (ps : List Part) → SpellsFile component_parts tokens ps → (scope : Path) (i : Item) → Contains (in_parts scope ps) i → IsListed i
parts_listed tokens ps spelled scope i there = of_contained IsListed (in_parts scope ps) i (parts_hold tokens ps spelled scope) there
