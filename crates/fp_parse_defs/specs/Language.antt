-- The grammar of expressions. FPP Language Specification, "Expressions". This profile: an expression nests at most so deep; each
-- operator, minus and bracket is one, and a left operand becomes deeper at its operator.
use Rattle.std.specs.Prelude.{ℕ, zero, suc, ltb, max, ◌+◌, Bool, true, false, Option, Some, None, List, [], ◌∷◌, ◌++◌}
use Rattle.fp_base.specs.declared.place.Span.{Span}
use Rattle.fp_lexer.specs.declared.token.Token.{Token}
use Rattle.fp_tree.specs.declared.name.Name.{Name}
use Rattle.fp_tree.specs.declared.expression.Expr.{Expr}
use Rattle.fp_tree.specs.declared.expression.Form.TheVariants as form
use Rattle.fp_tree.specs.declared.expression.Operator.{Operator}
use Rattle.fp_parse_defs.specs.declared.measured.Measured.{Measured}
use Rattle.fp_parse_defs.specs.declared.measured.Setting.{Setting}
use Rattle.fp_parse_defs.specs.declared.measured.Items.{Items}
use Rattle.fp_parse_defs.specs.declared.measured.Assignments.{Assignments}
use Rattle.fp_grammar.specs.Grammar.{Grammar, Language, Spells}
use Rattle.fp_grammar.specs.Grammar.Grammar.{seq, map, alt, optional, chain, ref}
use Rattle.fp_grammar.specs.Seal.{seal}
use Rattle.fp_parse_pieces.specs.Kinds.{kind, k_name, k_number, k_float, k_string, k_true, k_false, k_open, k_close, k_open_bracket, k_close_bracket, k_open_brace, k_close_brace, k_times, k_over, k_plus, k_minus, k_dot, k_equals}
use Rattle.fp_parse_pieces.specs.Words.{between, at, name}
use Rattle.fp_parse_defs.specs.Words.{bare, literal, named, plus_minus, times_over, nesting}
use Rattle.fp_parse_pieces.specs.Lists.{joined, some_of, commas}

-- what expressions begin with
abbrev pub begins : List ℕ
begins = k_number ∷ k_float ∷ k_string ∷ k_true ∷ k_false ∷ k_name ∷ k_minus ∷ k_open ∷ k_open_bracket ∷ k_open_brace ∷ []

-- one more level round both
abbrev pub combined : Measured → Operator × Measured → Measured
combined left p = record {
  expr = bare (form.Binary p.0 left.expr p.1.expr) (between left.expr.at p.1.expr.at);
  height = max left.height p.1.height + 1;
}

-- what was read of less depth than this allows an operator behind it
abbrev pub lower : ℕ → Measured → Bool
lower depth x = ltb x.height depth

-- what stands inside, as languages with one less depth: nested things, factors and terms
pub record Level : Type 1 where
  pub nested : Language Token Measured
  pub factor : Language Token Measured
  pub term : Language Token Measured

-- Factor = number | float | Str | 'true' | 'false' | Qual | what nests
abbrev pub factor_body : Language Token Measured → Grammar Token Measured
factor_body nested = alt literal (alt named (ref (record { spells = nested; productive = false; first = nesting; extends = k_dot ∷ [] })))

abbrev pub factor_of : Language Token Measured → Grammar Token Measured
factor_of nested = seal kind (factor_body nested) begins (k_dot ∷ [])

-- some depth is left
abbrev pub is_left : ℕ → Bool
is_left zero = false
is_left (suc depth) = true

-- an operand behind an operator, for which one depth less is left
abbrev pub operand_of : ℕ → Language Token Measured → List ℕ → Grammar Token Measured
operand_of depth language extends = ref (record { spells = language; productive = is_left depth; first = begins; extends = extends })

-- Term = Factor (('*' | '/') Factor)*
abbrev pub term_body : ℕ → Level → Grammar Token Measured
term_body depth level = chain (factor_of level.nested) (seq times_over (operand_of depth level.factor (k_dot ∷ []))) (lower depth) combined

abbrev pub term_of : ℕ → Level → Grammar Token Measured
term_of depth level = seal kind (term_body depth level) begins (k_dot ∷ k_times ∷ k_over ∷ [])

-- Expr = Term (('+' | '-') Term)*
abbrev pub expr_body : ℕ → Level → Grammar Token Measured
expr_body depth level = chain (term_of depth level) (seq plus_minus (operand_of depth level.term (k_dot ∷ k_times ∷ k_over ∷ []))) (lower depth) combined

abbrev pub expr_of : ℕ → Level → Grammar Token Measured
expr_of depth level = seal kind (expr_body depth level) begins (k_dot ∷ k_times ∷ k_over ∷ k_plus ∷ k_minus ∷ [])

abbrev pub made_minus : Span × Measured → Measured
made_minus p = record { expr = bare (form.Minus p.1.expr) (between p.0 p.1.expr.at); height = p.1.height + 1 }

-- '-' Factor
abbrev pub negated_of : Grammar Token Measured → Grammar Token Measured
negated_of factor = map made_minus (seq (at k_minus) factor)

abbrev pub made_group : Span × (Measured × Span) → Measured
made_group p = record { expr = bare (form.Parentheses p.1.0.expr) (between p.0 p.1.1); height = p.1.0.height + 1 }

-- '(' Expr ')'
abbrev pub group_of : Grammar Token Measured → Grammar Token Measured
group_of expr = map made_group (seq (at k_open) (seq expr (at k_close)))

abbrev pub with_item : Items → Measured → List (List ℕ) → Items
with_item items x lines = record { row = items.row ++ (record { form = x.expr.form; at = x.expr.at; note = joined lines }) ∷ []; height = max items.height x.height }

abbrev pub no_items : Items
no_items = record { row = []; height = 0 }

-- Expr+,
abbrev pub items_of : Grammar Token Measured → Grammar Token Items
items_of expr = some_of commas with_item no_items expr

abbrev pub made_array : Span × (Items × Span) → Measured
made_array p = record { expr = bare (form.Array p.1.0.row) (between p.0 p.1.1); height = p.1.0.height + 1 }

-- '[' Expr+, ']'
abbrev pub array_of : Grammar Token Measured → Grammar Token Measured
array_of expr = map made_array (seq (at k_open_bracket) (seq (items_of expr) (at k_close_bracket)))

abbrev pub made_setting : Name × (Span × Measured) → Setting
made_setting p = record { name = p.0; value = p.1.1 }

-- name '=' Expr
abbrev pub setting_of : Grammar Token Measured → Grammar Token Setting
setting_of expr = map made_setting (seq name (seq (at k_equals) expr))

abbrev pub with_member : Assignments → Setting → List (List ℕ) → Assignments
with_member members s lines = record {
  row = members.row ++ (record { name = s.name; value = s.value.expr; at = between s.name.at s.value.expr.at; note = joined lines }) ∷ [];
  height = max members.height s.value.height;
}

abbrev pub no_members : Assignments
no_members = record { row = []; height = 0 }

abbrev pub or_no_members : Option Assignments → Assignments
or_no_members None = no_members
or_no_members (Some members) = members

-- (name '=' Expr)+,
abbrev pub some_members_of : Grammar Token Measured → Grammar Token Assignments
some_members_of expr = some_of commas with_member no_members (setting_of expr)

-- (name '=' Expr)*,
abbrev pub members_of : Grammar Token Measured → Grammar Token Assignments
members_of expr = map or_no_members (optional (some_members_of expr))

abbrev pub made_struct : Span × (Assignments × Span) → Measured
made_struct p = record { expr = bare (form.Struct p.1.0.row) (between p.0 p.1.1); height = p.1.0.height + 1 }

-- '{' (name '=' Expr)*, '}'
abbrev pub struct_of : Grammar Token Measured → Grammar Token Measured
struct_of expr = map made_struct (seq (at k_open_brace) (seq (members_of expr) (at k_close_brace)))

-- '-' Factor | '(' Expr ')' | '[' Expr+, ']' | '{' (name '=' Expr)*, '}'
abbrev pub inside_of : Grammar Token Measured → Grammar Token Measured → Grammar Token Measured
inside_of factor expr = alt (negated_of factor) (alt (group_of expr) (alt (array_of expr) (struct_of expr)))

-- with no depth left nothing nests; else what nests has one less inside it
abbrev pub level : ℕ → Level
level zero = record { nested = λ w x. ⊥; factor = λ w x. ⊥; term = λ w x. ⊥ }
level (suc depth) = record {
  nested = Spells kind (inside_of (factor_of (level depth).nested) (expr_of depth (level depth)));
  factor = Spells kind (factor_of (level depth).nested);
  term = Spells kind (term_of depth (level depth));
}

-- what nests, with this much depth left
abbrev pub nested : ℕ → Grammar Token Measured
nested depth = ref (record { spells = (level depth).nested; productive = false; first = nesting; extends = k_dot ∷ [] })

-- these with this much depth left
abbrev pub factor : ℕ → Grammar Token Measured
factor depth = factor_of (level depth).nested

abbrev pub term : ℕ → Grammar Token Measured
term depth = term_of depth (level depth)

abbrev pub expr : ℕ → Grammar Token Measured
expr depth = expr_of depth (level depth)

abbrev pub inside : ℕ → Grammar Token Measured
inside depth = inside_of (factor depth) (expr depth)

abbrev pub negated : ℕ → Grammar Token Measured
negated depth = negated_of (factor depth)

abbrev pub group : ℕ → Grammar Token Measured
group depth = group_of (expr depth)

abbrev pub array : ℕ → Grammar Token Measured
array depth = array_of (expr depth)

abbrev pub structure : ℕ → Grammar Token Measured
structure depth = struct_of (expr depth)

abbrev pub items : ℕ → Grammar Token Items
items depth = items_of (expr depth)

abbrev pub setting : ℕ → Grammar Token Setting
setting depth = setting_of (expr depth)

abbrev pub some_members : ℕ → Grammar Token Assignments
some_members depth = some_members_of (expr depth)

abbrev pub members : ℕ → Grammar Token Assignments
members depth = members_of (expr depth)

-- Expr, of which at most so much nests
abbrev pub expression : ℕ → Grammar Token Expr
expression depth = map (λ m. m.expr) (expr depth)
