-- How deep expressions and modules nest: each operator, each minus, each bracket of an expression and each module is one level round what
-- stands inside it. Expressions and modules are counted apart.
use Rattle.std.specs.Prelude.{ℕ, ◌+◌, max, List, map}
use Rattle.fp_tree.specs.declared.expression.Expr.{Expr, Expr-F, fold-Expr}
use Rattle.fp_tree.specs.declared.expression.Form.{Form, Form-F, fold-Form}
use Rattle.fp_tree.specs.declared.expression.Form.TheOpen as form
use Rattle.fp_tree.specs.declared.expression.Assignment.{Assignment, Assignment-F, fold-Assignment}
use Rattle.fp_tree.specs.declared.member.Member.{Member, Member-F, fold-Member}
use Rattle.fp_tree.specs.declared.member.Member.TheOpen as member
use Rattle.fp_tree.specs.declared.member.Module.{Module-F}
use Rattle.fp_meaning.specs.Values.{deepest}

abbrev pub depth_of_form : Form-F ℕ ℕ ℕ → ℕ
depth_of_form (form.Minus operand) = operand + 1
depth_of_form (form.Parentheses inner) = inner + 1
depth_of_form (form.Binary operator left right) = max left right + 1
depth_of_form (form.Array items) = deepest items + 1
depth_of_form (form.Struct members) = deepest members + 1
depth_of_form _ = 0

abbrev pub depth_of_assignment : Assignment-F ℕ ℕ ℕ → ℕ
depth_of_assignment a = a.value

abbrev pub depth_of_expression : Expr-F ℕ ℕ ℕ → ℕ
depth_of_expression e = e.form

-- how deep an expression nests
abbrev pub depth_of : Expr → ℕ
depth_of e = fold-Expr ℕ ℕ ℕ depth_of_form depth_of_assignment depth_of_expression e

abbrev pub depth_in_form : Form → ℕ
depth_in_form f = fold-Form ℕ ℕ ℕ depth_of_form depth_of_assignment depth_of_expression f

abbrev pub depth_in_assignment : Assignment → ℕ
depth_in_assignment a = fold-Assignment ℕ ℕ ℕ depth_of_form depth_of_assignment depth_of_expression a

abbrev pub modules_of_member : Member-F ℕ ℕ → ℕ
modules_of_member (member.Module inner) = inner
modules_of_member _ = 0

abbrev pub modules_of_module : Module-F ℕ ℕ → ℕ
modules_of_module m = deepest m.members + 1

-- how deep modules nest in a member
abbrev pub modules_within : Member → ℕ
modules_within m = fold-Member ℕ ℕ modules_of_member modules_of_module m

-- and in members
abbrev pub modules_in : List Member → ℕ
modules_in ms = deepest (map modules_within ms)
