-- The grammar of the members of files and modules. FPP Language Specification, "Translation Units and Models", "Module Definitions",
-- "Include Specifiers" and "Location Specifiers".
use Rattle.std.specs.Prelude.{ℕ, zero, suc, ltb, Bool, false, List, [], ◌∷◌, ◌++◌, length}
use Rattle.fp_parse_topologies.specs.Instances.{k_at}
use Rattle.fp_parse_states.specs.Bodies.{k_semicolon}
use Rattle.fp_base.specs.declared.place.Span.{Span}
use Rattle.fp_lexer.specs.Words.{words, reserved}
use Rattle.fp_lexer.specs.declared.token.Word.{Word}
use Rattle.fp_lexer.specs.declared.token.Word.TheVariants as word
use Rattle.fp_lexer.specs.declared.token.Token.{Token}
use Rattle.fp_tree.specs.declared.name.Name.{Name}
use Rattle.fp_tree.specs.declared.name.Qual.{Qual}
use Rattle.fp_tree.specs.declared.name.Str.{Str}
use Rattle.fp_tree.specs.declared.member.Member.{Member}
use Rattle.fp_tree.specs.declared.member.Member.TheVariants as node
use Rattle.fp_parse_parts.specs.declared.bare.BareMember.{BareMember}
use Rattle.fp_parse_parts.specs.declared.bare.BareMember.TheVariants as bare
use Rattle.fp_parse_parts.specs.declared.bare.ModelMember.{ModelMember}
use Rattle.fp_parse_parts.specs.declared.bare.ModelMember.TheVariants as model
use Rattle.fp_grammar.specs.Grammar.{Grammar, Language, Spells, after}
use Rattle.fp_grammar.specs.Grammar.Grammar.{one_of, seq, map, alt, optional, many, ref}
use Rattle.fp_grammar.specs.Seal.{seal}
use Rattle.fp_parse_pieces.specs.Kinds.{kind, k_reserved, k_newline, k_open, k_open_brace, k_close_brace, k_equals}
use Rattle.fp_parse_pieces.specs.Words.{between, at, name, qual}
use Rattle.fp_parse_pieces.specs.Lists.{joined, some_of, or_none}
use Rattle.fp_parse_pieces.specs.Words.{literal_string}
pub use Rattle.fp_parse_defs.specs.Definitions.{noted_definition}
use Rattle.fp_parse_parts.specs.Models.{any_model, model_begins, model_goes_on}
use Rattle.fp_parse_defs.specs.Definitions.{definition, expr_goes_on, k_array, k_arrow, k_constant, k_default, k_enum, k_format, k_port, k_size, k_struct, k_type}
use Rattle.fp_parse_defs.specs.Specifiers.{k_include}

abbrev pub k_locate : ℕ
k_locate = k_reserved (reserved "locate")

abbrev pub k_module : ℕ
k_module = k_reserved (reserved "module")

-- what separates members
abbrev pub semicolons : List ℕ
semicolons = k_semicolon ∷ k_newline ∷ []

-- what definitions begin with
abbrev pub definition_begins : List ℕ
definition_begins = k_constant ∷ k_type ∷ k_array ∷ k_struct ∷ k_enum ∷ k_port ∷ []

-- what definitions go on with
abbrev pub definition_goes_on : List ℕ
definition_goes_on = k_equals ∷ k_size ∷ k_default ∷ k_format ∷ k_open ∷ k_arrow ∷ expr_goes_on

-- Def
abbrev pub definition_member : ℕ → Grammar Token BareMember
definition_member expressions = map bare.Def (seal kind (definition expressions) definition_begins definition_goes_on)

abbrev pub made_include : Span × Str → BareMember
made_include (at, file) = bare.Include file (between at file.at)

-- Include = 'include' Str
abbrev pub include : Grammar Token BareMember
include = map made_include (seq (at k_include) literal_string)

-- the reserved words at places below this one of their table
abbrev pub words_below : ℕ → List ℕ
words_below zero = []
words_below (suc n) = k_reserved n ∷ words_below n

-- how many reserved words there are
abbrev pub word_count : ℕ
word_count = length words

abbrev pub is_reserved : Word → Bool
is_reserved (word.Reserved r) = ltb r word_count
is_reserved _ = false

abbrev pub reserved_word : Grammar Token Token
reserved_word = one_of (words_below word_count)

abbrev pub first_span : Span × (Token × List Token) → Span
first_span p = p.0

-- 'locate' (reserved word)+
abbrev pub locate_words : Grammar Token Span
locate_words = map first_span (seq (at k_locate) (seq reserved_word (many reserved_word)))

abbrev pub made_locate : Span × (Qual × (Span × Str)) → BareMember
made_locate (at, (of, (before_file, file))) = bare.Locate of file (between at file.at)

-- Locate = 'locate' (reserved word)+ Qual 'at' Str
abbrev pub locate : Grammar Token BareMember
locate = map made_locate (seq locate_words (seq qual (seq (at k_at) literal_string)))

-- the members that say what a model is put together from
abbrev pub model_member : ℕ → Grammar Token BareMember
model_member expressions = map bare.Model (seal kind (any_model expressions) model_begins model_goes_on)

-- a member of a model with this annotation
abbrev pub noted_model : ModelMember → List ℕ → Member
noted_model (model.Machine m) note = node.Machine (record m { note = note })
noted_model (model.Component c) note = node.Component (record c { note = note })
noted_model (model.Interface i) note = node.Interface (record i { note = note })
noted_model (model.Instance i) note = node.Instance (record i { note = note })
noted_model (model.Topology t) note = node.Topology (record t { note = note })

-- a member with this annotation
abbrev pub noted_member : BareMember → List ℕ → Member
noted_member (bare.Module name members at) note = node.Module (record { name = name; members = members; at = at; note = note })
noted_member (bare.Def d) note = node.Def (noted_definition d note)
noted_member (bare.Model m) note = noted_model m note
noted_member (bare.Include file at) note = node.Include (record { file = file; at = at; note = note })
noted_member (bare.Locate of file at) note = node.Locate (record { of = of; file = file; at = at; note = note })

abbrev pub with_member : List Member → BareMember → List (List ℕ) → List Member
with_member members m lines = members ++ noted_member m (joined lines) ∷ []

-- a module, of which this is the language
abbrev pub module_from : Language Token BareMember → Grammar Token BareMember
module_from modules = ref (record { spells = modules; productive = false; first = k_module ∷ []; extends = [] })

-- Def | Machine | Component | Interface | Instance | Topology
abbrev pub definition_or_model : ℕ → Grammar Token BareMember
definition_or_model expressions = alt (definition_member expressions) (model_member expressions)

-- Include | Locate | Def | Machine | Component | Interface | Instance | Topology
abbrev pub other_member : ℕ → Grammar Token BareMember
other_member expressions = alt include (alt locate (definition_or_model expressions))

-- Member = Module | Include | Locate | Def | Machine | Component | Interface | Instance | Topology
abbrev pub member_of : ℕ → Language Token BareMember → Grammar Token BareMember
member_of expressions modules = alt (module_from modules) (other_member expressions)

-- Member+;
abbrev pub some_members_of : ℕ → Language Token BareMember → Grammar Token (List Member)
some_members_of expressions modules = some_of semicolons with_member [] (member_of expressions modules)

-- Member*;
abbrev pub members_of : ℕ → Language Token BareMember → Grammar Token (List Member)
members_of expressions modules = map or_none (optional (some_members_of expressions modules))

abbrev pub made_module : Span × (Name × (List Member × Span)) → BareMember
made_module (at, (name, (members, closing))) = bare.Module name members (between at closing)

-- Module = 'module' name '{' Member*; '}'
abbrev pub module_of : ℕ → Language Token BareMember → Grammar Token BareMember
module_of expressions modules = map made_module (seq (at k_module) (seq name (after k_open_brace (seq (members_of expressions modules) (at k_close_brace)))))

-- modules, of which at most so many nest: with no depth left there are none; else what stands in one has one depth less
abbrev pub modules : ℕ → ℕ → Language Token BareMember
modules expressions zero = λ w x. ⊥
modules expressions (suc depth) = Spells kind (module_of expressions (modules expressions depth))

-- these, where expressions and modules nest at most so deep
abbrev pub nested_module : ℕ → ℕ → Grammar Token BareMember
nested_module expressions depth = module_from (modules expressions depth)

abbrev pub member : ℕ → ℕ → Grammar Token BareMember
member expressions depth = member_of expressions (modules expressions depth)

abbrev pub some_members : ℕ → ℕ → Grammar Token (List Member)
some_members expressions depth = some_members_of expressions (modules expressions depth)

abbrev pub members : ℕ → ℕ → Grammar Token (List Member)
members expressions depth = members_of expressions (modules expressions depth)

-- a module with this much depth left inside it
abbrev pub opened_module : ℕ → ℕ → Grammar Token BareMember
opened_module expressions depth = module_of expressions (modules expressions depth)
