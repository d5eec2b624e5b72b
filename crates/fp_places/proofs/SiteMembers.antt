-- What the items of a member of a file define and use stands where tokens begin, its names are names that tokens have, and its expressions
-- and the modules in it nest no deeper than is allowed.
use Rattle.std.proofs.Common.{◌≡◌, ℕ, zero, suc, ◌+◌, ◌≤◌, List, [], ◌∷◌, ◌++◌, flat_map, subst, sym, arith}
use Rattle.std.specs.List.{AllByRecursion as Each}
use Rattle.fp_base.specs.declared.place.Place.{Place}
use Rattle.fp_base.specs.declared.place.Span.{Span}
use Rattle.fp_lexer.specs.declared.token.Token.{Token}
use Rattle.fp_tree.specs.declared.name.Name.{Name}
use Rattle.fp_tree.specs.declared.name.Qual.{Qual}
use Rattle.fp_tree.specs.declared.name.Str.{Str}
use Rattle.fp_tree.specs.declared.definition.Def.{Def}
use Rattle.fp_tree.specs.declared.member.Include.{Include}
use Rattle.fp_tree.specs.declared.member.Member.{Member}
use Rattle.fp_tree.specs.declared.member.Module.{Module, out-Module}
use Rattle.fp_tree.specs.declared.member.Member.TheVariants as node
use Rattle.fp_meaning.specs.declared.names.Definition.{Definition}
use Rattle.fp_meaning.specs.declared.item.Item.{Item}
use Rattle.fp_meaning.specs.Sites.{Path, Placed}
use Rattle.fp_meaning.specs.Layout.{in_member, in_members}
use Rattle.fp_meaning.specs.Names.{definitions_of, uses_of}
use Rattle.fp_meaning.specs.Origins.{expressions_of}
use Rattle.fp_meaning.proofs.Walks.{module_gives, definition_gives, include_gives, locate_gives}
use Rattle.fp_grammar.specs.Grammar.{Language}
use Rattle.fp_parse_pieces.specs.Kinds.{k_open_brace, k_close_brace}
use Rattle.fp_parse_pieces.specs.Lists.{joined, or_none}
use Rattle.fp_parse_defs.specs.Definitions.{definition}
use Rattle.fp_parse_defs.specs.Specifiers.{k_include}
use Rattle.fp_parse_parts.specs.declared.bare.BareMember.{BareMember}
use Rattle.fp_parse_parts.specs.declared.bare.BareMember.TheVariants as bare
use Rattle.fp_parse_parts.specs.declared.bare.ModelMember.{ModelMember}
use Rattle.fp_parse_parts.specs.Members.{k_module, semicolons, definition_begins, definition_goes_on, definition_member, made_include, include, made_locate, locate, model_member, noted_definition, noted_member, with_member, member_of, members_of, made_module, modules, members}
use Rattle.fp_places.specs.Depths.{depth_of, modules_within, modules_in}
use Rattle.fp_places.specs.Names.{names_within, names_in}
use Rattle.fp_places.specs.Includes.{includes_within, includes_in}
use Rattle.fp_base.proofs.Lists.{each_push, each_flat, each_weaker}
use Rattle.fp_base.proofs.Numbers.{max_within}
use Rattle.fp_places.proofs.Preserving.{LanguageGives, gives_anything, gives_map, gives_seq, gives_alt, gives_optional, gives_ref, gives_seal, gives_after}
use Rattle.fp_places.proofs.Lists.{each_or_none, gives_some_of}
use Rattle.fp_places.proofs.SiteWalks.{module_includes, definition_includes, include_includes, locate_includes, module_names, definition_names, include_names, locate_names, module_depth, definition_depth, include_depth, locate_depth}
use Rattle.fp_places.proofs.ModelWalks.{model_includes, model_depth}
use Rattle.fp_places.proofs.Models.{ModelSaid, models_yield}
use Rattle.fp_places.proofs.Telling.{told}
use Rattle.fp_places.proofs.Words.{IsTold, Yields, SitedName, SitedQual, at_yields, name_yields, qual_yields}
use Rattle.fp_places.proofs.SiteExpressions.{Stand, same_names}
use Rattle.fp_places.proofs.SiteDefinitions.{Sited, SitedItem, definition_yields}

no_modules : (n k : ℕ) → n ≡ 0 → n ≤ k
no_modules n k e = omega arith

one_module : (n inner k : ℕ) → n ≡ inner + 1 → inner ≤ k → n ≤ suc k
one_module n inner k e h = omega arith

module _ (G : Place → Type 0) (N : Name → Type 0) (expressions : ℕ) where
  -- all these items are such items
  abbrev Given : List Item → Type 0
  Given is = Each (SitedItem G N expressions) is

  -- each of these includes stands at such a place
  abbrev Included : List Include → Type 0
  Included is = Each (λ (i : Include). G i.at.first) is

  -- a member has such items, in any scope, its includes stand at such places, its names are such names, and modules in it nest no deeper
  -- than this
  pub record SitedMember (depth : ℕ) (m : Member) : Type 0 where
    pub given : (scope : Path) → Given (in_member scope m)
    pub includes : Included (includes_within m)
    pub names : Each N (names_within m)
    pub modules : modules_within m ≤ depth

  -- the same of a member in any annotation
  abbrev pub SitedBare : ℕ → BareMember → Type 0
  SitedBare depth m = (note : List ℕ) → SitedMember depth (noted_member m note)

  module _ (depth : ℕ) where
    given_of_all : (ms : List Member) → Each (SitedMember depth) ms → (scope : Path) → Given (in_members scope ms)
    given_of_all ms hs scope = each_flat _ (in_member scope) ms (each_weaker (SitedMember depth) (λ m. Given (in_member scope m)) (λ m h. h.given scope) ms hs)

    pub definitions_of_all : (ms : List Member) → Each (SitedMember depth) ms → (scope : Path) → Each (λ (d : Definition). G d.place) (flat_map definitions_of (in_members scope ms))
    definitions_of_all ms hs scope = each_flat _ definitions_of (in_members scope ms)
        (each_weaker (SitedItem G N expressions) (λ i. Each (λ (d : Definition). G d.place) (definitions_of i)) (λ i h. h.defines) (in_members scope ms) (given_of_all ms hs scope))

    pub uses_of_all : (ms : List Member) → Each (SitedMember depth) ms → (scope : Path) → Stand G N (flat_map uses_of (in_members scope ms))
    uses_of_all ms hs scope = each_flat _ uses_of (in_members scope ms)
        (each_weaker (SitedItem G N expressions) (λ i. Stand G N (uses_of i)) (λ i h. h.uses) (in_members scope ms) (given_of_all ms hs scope))

    pub kept_of_all : (ms : List Member) → Each (SitedMember depth) ms → (scope : Path) → Each (λ (p : Placed). depth_of p.expression ≤ expressions) (flat_map expressions_of (in_members scope ms))
    kept_of_all ms hs scope = each_flat _ expressions_of (in_members scope ms)
        (each_weaker (SitedItem G N expressions) (λ i. Each (λ (p : Placed). depth_of p.expression ≤ expressions) (expressions_of i)) (λ i h. h.kept) (in_members scope ms) (given_of_all ms hs scope))

    pub includes_of_all : (ms : List Member) → Each (SitedMember depth) ms → Included (includes_in ms)
    includes_of_all ms hs = each_flat _ includes_within ms (each_weaker (SitedMember depth) (λ m. Included (includes_within m)) (λ m h. h.includes) ms hs)

    pub names_of_all : (ms : List Member) → Each (SitedMember depth) ms → Each N (names_in ms)
    names_of_all ms hs = each_flat N names_within ms (each_weaker (SitedMember depth) (λ m. Each N (names_within m)) (λ m h. h.names) ms hs)

    pub modules_of_all : (ms : List Member) → Each (SitedMember depth) ms → modules_in ms ≤ depth
    modules_of_all [] hs = omega arith
    modules_of_all (m ∷ ms) hs = max_within (modules_within m) (modules_in ms) depth hs.0.modules (modules_of_all ms hs.1)

  same_given : (is js : List Item) → is ≡ js → Given js → Given is
  same_given is js e h = subst Given (sym e) h

  same_included : (is js : List Include) → is ≡ js → Included js → Included is
  same_included is js e h = subst Included (sym e) h

  module_sited : (depth : ℕ) (m : Module) → N (out-Module m).name → Each (SitedMember depth) (out-Module m).members → SitedMember (suc depth) (node.Module m)
  module_sited depth m name hs = record {
    given = λ scope. same_given _ _ (module_gives scope m) (given_of_all depth (out-Module m).members hs (scope ++ (out-Module m).name.text ∷ []));
    includes = same_included _ _ (module_includes m) (includes_of_all depth (out-Module m).members hs);
    names = same_names G N _ _ (module_names m) (name, names_of_all depth (out-Module m).members hs);
    modules = one_module _ _ depth (module_depth m) (modules_of_all depth (out-Module m).members hs);
  }

  definition_sited : (depth : ℕ) (d : Def) → Sited G N expressions d → SitedMember depth (node.Def d)
  definition_sited depth d h = record {
    given = λ scope. same_given _ _ (definition_gives scope d) (h.items scope);
    includes = same_included _ _ (definition_includes d) tt;
    names = same_names G N _ _ (definition_names d) h.names;
    modules = no_modules _ depth (definition_depth d);
  }

  include_sited : (depth : ℕ) (i : Include) → G i.at.first → SitedMember depth (node.Include i)
  include_sited depth i h = record {
    given = λ scope. same_given _ _ (include_gives scope i) tt;
    includes = same_included _ _ (include_includes i) (h, tt);
    names = same_names G N _ _ (include_names i) tt;
    modules = no_modules _ depth (include_depth i);
  }

  -- a `locate` gives and uses nothing
  locate_sited : (depth : ℕ) (of : Qual) (file : Str) (at : Span) → Each N of.names → SitedBare depth (bare.Locate of file at)
  locate_sited depth of file at names note = record {
    given = λ scope. same_given _ _ (locate_gives scope _) tt;
    includes = same_included _ _ (locate_includes _) tt;
    names = same_names G N _ _ (locate_names _) names;
    modules = no_modules _ depth (locate_depth _);
  }

  definition_member_yields : (depth : ℕ) → Yields G N (definition_member expressions) (SitedBare depth)
  definition_member_yields depth = gives_map (SitedBare depth) bare.Def (λ d h note. definition_sited depth (noted_definition d note) (h note))
      (gives_seal {a = definition expressions} definition_begins definition_goes_on (definition_yields G N expressions))

  model_sited : (depth : ℕ) (m : ModelMember) → ModelSaid (told G N expressions) m → SitedBare depth (bare.Model m)
  unfolding told
  model_sited depth m h note = record {
    given = (h note).items;
    includes = same_included _ _ (model_includes m note) tt;
    names = (h note).names;
    modules = no_modules _ depth (model_depth m note);
  }

  model_member_yields : (depth : ℕ) → Yields G N (model_member expressions) (SitedBare depth)
  unfolding told
  model_member_yields depth = gives_map (SitedBare depth) bare.Model (model_sited depth) (models_yield (told G N expressions))

  included_sited : (depth : ℕ) (p : Span × Str) → G p.0.first × Unit {0} → SitedBare depth (made_include p)
  included_sited depth (at, file) h note = include_sited depth _ h.0

  include_yields : (depth : ℕ) → Yields G N include (SitedBare depth)
  include_yields depth = gives_map (SitedBare depth) made_include (included_sited depth) (gives_seq (at_yields G N k_include) gives_anything)

  located_sited : (depth : ℕ) (p : Span × (Qual × (Span × Str))) → Unit {0} × (SitedQual G N p.1.0 × Unit {0}) → SitedBare depth (made_locate p)
  located_sited depth (at, (of, (before_file, file))) h = locate_sited depth of file _ h.1.0.named

  locate_yields : (depth : ℕ) → Yields G N locate (SitedBare depth)
  locate_yields depth = gives_map (SitedBare depth) made_locate (located_sited depth) (gives_seq gives_anything (gives_seq (qual_yields G N) gives_anything))

  moduled_sited : (depth : ℕ) (p : Span × (Name × (List Member × Span))) → G p.0.first × (SitedName G N p.1.0 × (Each (SitedMember depth) p.1.1.0 × G p.1.1.1.first)) → SitedBare (suc depth) (made_module p)
  moduled_sited depth (at, (name, (inner, closing))) h note = module_sited depth _ h.1.0.named h.1.1.0

  -- of what modules are, of which so many nest
  abbrev StandsAll : ℕ → Language Token BareMember → Type 0
  StandsAll depth language = LanguageGives (IsTold G N) language (SitedBare depth)

  member_yields : (depth : ℕ) (inner : Language Token BareMember) → StandsAll depth inner → Yields G N (member_of expressions inner) (SitedBare depth)
  member_yields depth inner given =
      gives_alt (gives_ref _ given) (gives_alt (include_yields depth) (gives_alt (locate_yields depth) (gives_alt (definition_member_yields depth) (model_member_yields depth))))

  members_yield : (depth : ℕ) (inner : Language Token BareMember) → StandsAll depth inner → Yields G N (members_of expressions inner) (Each (SitedMember depth))
  members_yield depth inner given = gives_map (Each (SitedMember depth)) or_none (each_or_none (SitedMember depth))
      (gives_optional (gives_some_of (SitedBare depth) (Each (SitedMember depth)) with_member (λ ms m lines h k. each_push (SitedMember depth) ms (noted_member m (joined lines)) h (k (joined lines))) semicolons [] tt (member_yields depth inner given)))

  modules_stand : (depth : ℕ) → StandsAll depth (modules expressions depth)
  modules_stand zero = λ w m s h. absurd s
  modules_stand (suc depth) =
      (gives_map (SitedBare (suc depth)) made_module (moduled_sited depth)
      (gives_seq (at_yields G N k_module) (gives_seq (name_yields G N) (gives_after k_open_brace (gives_seq (members_yield depth (modules expressions depth) (modules_stand depth)) (at_yields G N k_close_brace)))))).given

  pub all_yield : (depth : ℕ) → Yields G N (members expressions depth) (Each (SitedMember depth))
  all_yield depth = members_yield depth (modules expressions depth) (modules_stand depth)
