-- The uses in an expression, by its outermost production.
use Rattle.std.proofs.Common.{◌≡◌, ℤ, ℕ, Bool, List, [], ◌∷◌, ◌++◌, flat_map, sym, ap, ◌∙◌}
use Rattle.std.proofs.lemmas.List.Folds.{flat_map-map}
use Rattle.fp_tree.specs.declared.name.Qual.{Qual}
use Rattle.fp_tree.specs.declared.expression.Operator.{Operator}
use Rattle.fp_tree.specs.declared.expression.Expr.{Expr, fold_out-Expr}
use Rattle.fp_tree.specs.declared.expression.Assignment.{Assignment, fold_out-Assignment}
use Rattle.fp_tree.specs.declared.expression.Form.{fold-roll-Form}
use Rattle.fp_tree.specs.declared.expression.Form.TheOpen as form
use Rattle.fp_tree.specs.declared.expression.Form.TheVariants.{Number, rolls-Number, Float, rolls-Float, Text, rolls-Text, Truth, rolls-Truth, Use, rolls-Use, Minus, rolls-Minus, Parentheses, rolls-Parentheses, Binary, rolls-Binary, Array, rolls-Array, Struct, rolls-Struct}
use Rattle.fp_meaning.specs.declared.group.Group.TheVariants as group
use Rattle.fp_meaning.specs.declared.names.Mention.{Mention}
use Rattle.fp_meaning.specs.Names.{Path, mentioned, form_step, assignment_step, expression_step, in_form, in_expression, in_assignment}
use Rattle.fp_meaning.specs.Values.{values_in}

module _ (scope : Path) where
  pub whole_uses : (e : Expr) → in_expression scope e ≡ in_form scope e.form
  whole_uses e = fold_out-Expr (List Mention) (List Mention) (List Mention) (form_step scope) (assignment_step scope) (expression_step scope) e

  pub number_uses : (n : ℤ) → in_form scope (Number n) ≡ []
  number_uses n = ap (in_form scope) (sym (rolls-Number n)) ∙ fold-roll-Form (List Mention) (List Mention) (List Mention) (form_step scope) (assignment_step scope) (expression_step scope) (form.Number n)

  pub float_uses : in_form scope Float ≡ []
  float_uses = ap (in_form scope) (sym rolls-Float) ∙ fold-roll-Form (List Mention) (List Mention) (List Mention) (form_step scope) (assignment_step scope) (expression_step scope) form.Float

  pub text_uses : (t : List ℕ) → in_form scope (Text t) ≡ []
  text_uses t = ap (in_form scope) (sym (rolls-Text t)) ∙ fold-roll-Form (List Mention) (List Mention) (List Mention) (form_step scope) (assignment_step scope) (expression_step scope) (form.Text t)

  pub truth_uses : (b : Bool) → in_form scope (Truth b) ≡ []
  truth_uses b = ap (in_form scope) (sym (rolls-Truth b)) ∙ fold-roll-Form (List Mention) (List Mention) (List Mention) (form_step scope) (assignment_step scope) (expression_step scope) (form.Truth b)

  pub use_uses : (q : Qual) → in_form scope (Use q) ≡ mentioned group.Value scope q ∷ []
  use_uses q = ap (in_form scope) (sym (rolls-Use q)) ∙ fold-roll-Form (List Mention) (List Mention) (List Mention) (form_step scope) (assignment_step scope) (expression_step scope) (form.Use q)

  pub minus_uses : (a : Expr) → in_form scope (Minus a) ≡ in_expression scope a
  minus_uses a = ap (in_form scope) (sym (rolls-Minus a)) ∙ fold-roll-Form (List Mention) (List Mention) (List Mention) (form_step scope) (assignment_step scope) (expression_step scope) (form.Minus a)

  pub parentheses_uses : (a : Expr) → in_form scope (Parentheses a) ≡ in_expression scope a
  parentheses_uses a =
      ap (in_form scope) (sym (rolls-Parentheses a))
      ∙ fold-roll-Form (List Mention) (List Mention) (List Mention) (form_step scope) (assignment_step scope) (expression_step scope) (form.Parentheses a)

  pub binary_uses : (operator : Operator) (a b : Expr) → in_form scope (Binary operator a b) ≡ in_expression scope a ++ in_expression scope b
  binary_uses operator a b =
      ap (in_form scope) (sym (rolls-Binary operator a b))
      ∙ fold-roll-Form (List Mention) (List Mention) (List Mention) (form_step scope) (assignment_step scope) (expression_step scope) (form.Binary operator a b)

  pub array_uses : (items : List Expr) → in_form scope (Array items) ≡ flat_map (in_expression scope) items
  array_uses items =
      ap (in_form scope) (sym (rolls-Array items))
      ∙ fold-roll-Form (List Mention) (List Mention) (List Mention) (form_step scope) (assignment_step scope) (expression_step scope) (form.Array items)
      ∙ flat_map-map (λ (uses : List Mention). uses) (in_expression scope) items

  member_uses : (members : List Assignment) → flat_map (in_assignment scope) members ≡ flat_map (in_expression scope) (values_in members)
  member_uses [] = λ i. []
  member_uses (m ∷ ms) =
      ap (λ (uses : List Mention). uses ++ flat_map (in_assignment scope) ms)
      (fold_out-Assignment (List Mention) (List Mention) (List Mention) (form_step scope) (assignment_step scope) (expression_step scope) m)
      ∙ ap (λ (rest : List Mention). in_expression scope m.value ++ rest) (member_uses ms)

  pub struct_uses : (members : List Assignment) → in_form scope (Struct members) ≡ flat_map (in_expression scope) (values_in members)
  struct_uses members =
      ap (in_form scope) (sym (rolls-Struct members))
      ∙ fold-roll-Form (List Mention) (List Mention) (List Mention) (form_step scope) (assignment_step scope) (expression_step scope) (form.Struct members)
      ∙ flat_map-map (λ (uses : List Mention). uses) (in_assignment scope) members ∙ member_uses members
