-- What expressions are made of that hold no other: literals, uses of names, and operators.
use Rattle.std.specs.Prelude.{ℕ, List, [], ◌∷◌, true, cond, ◌==◌}
use Rattle.fp_base.specs.declared.place.Span.{Span}
use Rattle.fp_lexer.specs.Words.{reserved, mark}
use Rattle.fp_lexer.specs.declared.token.Word.{Word}
use Rattle.fp_lexer.specs.declared.token.Word.TheVariants as word
use Rattle.fp_lexer.specs.declared.token.Token.{Token}
use Rattle.fp_tree.specs.declared.expression.Expr.{Expr}
use Rattle.fp_tree.specs.declared.expression.Form.{Form}
use Rattle.fp_tree.specs.declared.expression.Form.TheVariants as form
use Rattle.fp_tree.specs.declared.expression.Operator.{Operator}
use Rattle.fp_tree.specs.declared.expression.Operator.TheVariants as operator
use Rattle.fp_parse_defs.specs.declared.measured.Measured.{Measured}
use Rattle.fp_grammar.specs.Grammar.{Grammar}
use Rattle.fp_grammar.specs.Grammar.Grammar.{one_of, map}
use Rattle.fp_parse_pieces.specs.Words.{qual}
use Rattle.fp_parse_pieces.specs.Kinds.{k_number, k_float, k_string, k_true, k_false, k_times, k_over, k_plus, k_minus, k_open, k_open_bracket, k_open_brace}

-- an expression without annotation
abbrev pub bare : Form → Span → Expr
bare f at = record { form = f; at = at; note = [] }

-- one with nothing inside it
abbrev pub leaf : Form → Span → Measured
leaf f at = record { expr = bare f at; height = 0 }

-- number | float | Str | 'true' | 'false'
abbrev pub literal_form : Word → Form
literal_form (word.Number value) = form.Number value
literal_form (word.Str text) = form.Text text
literal_form (word.Reserved r) = form.Truth (r == reserved "true")
literal_form _ = form.Float

abbrev pub literal : Grammar Token Measured
literal = map (λ t. leaf (literal_form t.what) t.at) (one_of (k_number ∷ k_float ∷ k_string ∷ k_true ∷ k_false ∷ []))

abbrev pub named : Grammar Token Measured
named = map (λ q. leaf (form.Use q) q.at) qual

-- '+' | '-'
abbrev pub sum_operator : Word → Operator
sum_operator (word.Mark m) = cond (m == mark "+") operator.Add operator.Subtract
sum_operator _ = operator.Subtract

abbrev pub plus_minus : Grammar Token Operator
plus_minus = map (λ t. sum_operator t.what) (one_of (k_plus ∷ k_minus ∷ []))

-- '*' | '/'
abbrev pub product_operator : Word → Operator
product_operator (word.Mark m) = cond (m == mark "*") operator.Multiply operator.Divide
product_operator _ = operator.Divide

abbrev pub times_over : Grammar Token Operator
times_over = map (λ t. product_operator t.what) (one_of (k_times ∷ k_over ∷ []))

-- what the expressions that nest begin with
abbrev pub nesting : List ℕ
nesting = k_minus ∷ k_open ∷ k_open_bracket ∷ k_open_brace ∷ []
