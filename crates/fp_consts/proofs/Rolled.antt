-- The uses in an opened expression.
use Rattle.std.proofs.Common.{◌≡◌, List, [], ◌∷◌, ◌++◌, flat_map, sym, ap, ◌∙◌}
use Rattle.fp_tree.specs.declared.expression.Expr.{Expr}
use Rattle.fp_tree.specs.declared.expression.Form.{roll-Form, roll-out-Form}
use Rattle.fp_tree.specs.declared.expression.Form.TheOpen as form
use Rattle.fp_tree.specs.declared.expression.Form.TheVariants.{rolls-Number, rolls-Float, rolls-Text, rolls-Truth, rolls-Use, rolls-Minus, rolls-Parentheses, rolls-Binary, rolls-Array, rolls-Struct}
use Rattle.fp_meaning.specs.declared.group.Group.TheVariants as group
use Rattle.fp_meaning.specs.declared.names.Mention.{Mention}
use Rattle.fp_meaning.specs.Names.{Path, mentioned, in_form, in_expression}
use Rattle.fp_meaning.specs.Values.{Opened, opened, values_in}
use Rattle.fp_meaning.proofs.UseWalks.{whole_uses, number_uses, float_uses, text_uses, truth_uses, use_uses, minus_uses, parentheses_uses, binary_uses, array_uses, struct_uses}

-- the uses in an opened expression
abbrev pub open_uses : Path → Opened → List Mention
open_uses scope (form.Use name) = mentioned group.Value scope name ∷ []
open_uses scope (form.Minus a) = in_expression scope a
open_uses scope (form.Parentheses a) = in_expression scope a
open_uses scope (form.Binary operator a b) = in_expression scope a ++ in_expression scope b
open_uses scope (form.Array items) = flat_map (in_expression scope) items
open_uses scope (form.Struct members) = flat_map (in_expression scope) (values_in members)
open_uses scope _ = []

pub rolled_uses : (scope : Path) (s : Opened) → in_form scope (roll-Form s) ≡ open_uses scope s
rolled_uses scope (form.Number n) = ap (in_form scope) (rolls-Number n) ∙ number_uses scope n
rolled_uses scope form.Float = ap (in_form scope) rolls-Float ∙ float_uses scope
rolled_uses scope (form.Text t) = ap (in_form scope) (rolls-Text t) ∙ text_uses scope t
rolled_uses scope (form.Truth b) = ap (in_form scope) (rolls-Truth b) ∙ truth_uses scope b
rolled_uses scope (form.Use name) = ap (in_form scope) (rolls-Use name) ∙ use_uses scope name
rolled_uses scope (form.Minus a) = ap (in_form scope) (rolls-Minus a) ∙ minus_uses scope a
rolled_uses scope (form.Parentheses a) = ap (in_form scope) (rolls-Parentheses a) ∙ parentheses_uses scope a
rolled_uses scope (form.Binary operator a b) = ap (in_form scope) (rolls-Binary operator a b) ∙ binary_uses scope operator a b
rolled_uses scope (form.Array items) = ap (in_form scope) (rolls-Array items) ∙ array_uses scope items
rolled_uses scope (form.Struct members) = ap (in_form scope) (rolls-Struct members) ∙ struct_uses scope members

pub opened_uses : (scope : Path) (e : Expr) → in_expression scope e ≡ open_uses scope (opened e)
opened_uses scope e = whole_uses scope e ∙ ap (in_form scope) (sym (roll-out-Form e.form)) ∙ rolled_uses scope (opened e)
