-- The places in an expression by its outermost production.
use Rattle.std.proofs.Common.{◌≡◌, ℤ, ℕ, Bool, List, [], ◌∷◌, ◌++◌, flat_map, sym, ap, ◌∙◌}
use Rattle.std.proofs.lemmas.List.Folds.{flat_map-map}
use Rattle.fp_base.specs.declared.place.Place.{Place}
use Rattle.fp_tree.specs.declared.name.Qual.{Qual}
use Rattle.fp_tree.specs.declared.expression.Operator.{Operator}
use Rattle.fp_tree.specs.declared.expression.Expr.{Expr, fold_out-Expr}
use Rattle.fp_tree.specs.declared.expression.Assignment.{Assignment, fold_out-Assignment}
use Rattle.fp_tree.specs.declared.expression.Form.{fold-roll-Form}
use Rattle.fp_tree.specs.declared.expression.Form.TheOpen as form
use Rattle.fp_tree.specs.declared.expression.Form.TheVariants.{Number, rolls-Number, Float, rolls-Float, Text, rolls-Text, Truth, rolls-Truth, Use, rolls-Use, Minus, rolls-Minus, Parentheses, rolls-Parentheses, Binary, rolls-Binary, Array, rolls-Array, Struct, rolls-Struct}
use Rattle.fp_places.specs.Places.{places_of_form, places_of_assignment, places_of_expression, places_in_expression, places_in_form, places_in_assignment}

pub whole_places : (e : Expr) → places_in_expression e ≡ e.at.first ∷ places_in_form e.form
whole_places e = fold_out-Expr (List Place) (List Place) (List Place) places_of_form places_of_assignment places_of_expression e

pub assigned_places : (a : Assignment) → places_in_assignment a ≡ a.name.at.first ∷ places_in_expression a.value
assigned_places a = fold_out-Assignment (List Place) (List Place) (List Place) places_of_form places_of_assignment places_of_expression a

pub number_places : (n : ℤ) → places_in_form (Number n) ≡ []
number_places n = ap places_in_form (sym (rolls-Number n)) ∙ fold-roll-Form (List Place) (List Place) (List Place) places_of_form places_of_assignment places_of_expression (form.Number n)

pub float_places : places_in_form Float ≡ []
float_places = ap places_in_form (sym rolls-Float) ∙ fold-roll-Form (List Place) (List Place) (List Place) places_of_form places_of_assignment places_of_expression form.Float

pub text_places : (t : List ℕ) → places_in_form (Text t) ≡ []
text_places t = ap places_in_form (sym (rolls-Text t)) ∙ fold-roll-Form (List Place) (List Place) (List Place) places_of_form places_of_assignment places_of_expression (form.Text t)

pub truth_places : (b : Bool) → places_in_form (Truth b) ≡ []
truth_places b = ap places_in_form (sym (rolls-Truth b)) ∙ fold-roll-Form (List Place) (List Place) (List Place) places_of_form places_of_assignment places_of_expression (form.Truth b)

pub use_places : (q : Qual) → places_in_form (Use q) ≡ []
use_places q = ap places_in_form (sym (rolls-Use q)) ∙ fold-roll-Form (List Place) (List Place) (List Place) places_of_form places_of_assignment places_of_expression (form.Use q)

pub minus_places : (a : Expr) → places_in_form (Minus a) ≡ places_in_expression a
minus_places a = ap places_in_form (sym (rolls-Minus a)) ∙ fold-roll-Form (List Place) (List Place) (List Place) places_of_form places_of_assignment places_of_expression (form.Minus a)

pub parentheses_places : (a : Expr) → places_in_form (Parentheses a) ≡ places_in_expression a
parentheses_places a = ap places_in_form (sym (rolls-Parentheses a)) ∙ fold-roll-Form (List Place) (List Place) (List Place) places_of_form places_of_assignment places_of_expression (form.Parentheses a)

pub binary_places : (operator : Operator) (a b : Expr) → places_in_form (Binary operator a b) ≡ places_in_expression a ++ places_in_expression b
binary_places operator a b = ap places_in_form (sym (rolls-Binary operator a b)) ∙ fold-roll-Form (List Place) (List Place) (List Place) places_of_form places_of_assignment places_of_expression (form.Binary operator a b)

pub array_places : (items : List Expr) → places_in_form (Array items) ≡ flat_map places_in_expression items
array_places items =
    ap places_in_form (sym (rolls-Array items))
    ∙ fold-roll-Form (List Place) (List Place) (List Place) places_of_form places_of_assignment places_of_expression (form.Array items)
    ∙ flat_map-map (λ (places : List Place). places) places_in_expression items

pub struct_places : (members : List Assignment) → places_in_form (Struct members) ≡ flat_map places_in_assignment members
struct_places members =
    ap places_in_form (sym (rolls-Struct members))
    ∙ fold-roll-Form (List Place) (List Place) (List Place) places_of_form places_of_assignment places_of_expression (form.Struct members)
    ∙ flat_map-map (λ (places : List Place). places) places_in_assignment members
