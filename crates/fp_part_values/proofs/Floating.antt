-- The least of the floats in an expression, by the form that stands in the tree.
use Rattle.std.proofs.Common.{◌≡◌, ◌⊎◌, ℕ, ℤ, Bool, List, [], slice_get, Option, Some, None, refl, inl, inr, sym, ap, subst, ◌∙◌}
use Rattle.fp_base.specs.declared.place.Place.{Place}
use Rattle.fp_base.specs.declared.refusal.Refusal.{Refusal}
use Rattle.fp_base.specs.declared.rule.Rule.TheVariants.{FloatUsed}
use Rattle.fp_base.specs.Least.{broken_at, InSome, IsLeast, lesser_of}
use Rattle.fp_base.proofs.Calculus.{least_none, least_only, least_same}
use Rattle.fp_base.proofs.Lists.{no_item}
use Rattle.fp_tree.specs.declared.name.Qual.{Qual}
use Rattle.fp_tree.specs.declared.expression.Operator.{Operator}
use Rattle.fp_tree.specs.declared.expression.Expr.{Expr}
use Rattle.fp_tree.specs.declared.expression.Assignment.{Assignment}
use Rattle.fp_tree.specs.declared.expression.Form.TheOpen as form
use Rattle.fp_tree.specs.declared.expression.Form.TheVariants.{Number, rolls-Number, Float, rolls-Float, Text, rolls-Text, Truth, rolls-Truth, Use, rolls-Use, Minus, rolls-Minus, Parentheses, rolls-Parentheses, Binary, rolls-Binary, Array, rolls-Array, Struct, rolls-Struct}
use Rattle.fp_meaning.specs.ConstantFaults.{parts_of}
use Rattle.fp_meaning.specs.Values.{Opened, opened, values_in}
use Rattle.fp_meaning.proofs.Opened.{opened_by}
use Rattle.fp_part_values.specs.Phases.{HasFloat, itself, within, FloatBroken}
use Rattle.fp_part_values.proofs.Folding.{least_of_one, least_of_two}

-- a float is the expression itself, or is in one of its parts
abbrev InPart : Expr → Place → Type 0
InPart e place = (k : ℕ) × (part : Expr) × (slice_get (parts_of (opened e)) k ≡ Some part) × HasFloat part place

abbrev IsItself : Expr → Place → Type 0
IsItself e place = (opened e ≡ form.Float) × (e.at.first ≡ place)

found : (e : Expr) (place : Place) → HasFloat e place → IsItself e place ⊎ InPart e place
found e place (itself is) = inl (is, refl)
found e place (within {part = part} k at h) = inr (k, part, at, h)

abbrev FloatAmong : List Expr → Refusal → Type 0
FloatAmong es = InSome (λ k. FloatBroken) es

module _ (e : Expr) where
  -- of an expression that is no float
  of_parts : (o : Opened) (r : Option Refusal) → opened e ≡ o → (o ≡ form.Float → ⊥) → IsLeast (FloatAmong (parts_of o)) r → IsLeast (FloatBroken e) r
  of_parts o r is other l = least_same to back l
    where
      to : (f : Refusal) → FloatAmong (parts_of o) f → FloatBroken e f
      to f t = (t.3.0, within t.0 (ap (λ (x : Opened). slice_get (parts_of x) t.0) is ∙ t.2) t.3.1, t.3.2)

      here : (f : Refusal) (place : Place) → f ≡ broken_at FloatUsed place → IsItself e place ⊎ InPart e place → FloatAmong (parts_of o) f
      here f place same (inl t) = absurd (other (sym is ∙ t.0))
      here f place same (inr t) = (t.0, t.1, ap (λ (x : Opened). slice_get (parts_of x) t.0) (sym is) ∙ t.2, (place, t.3, same))

      back : (f : Refusal) → FloatBroken e f → FloatAmong (parts_of o) f
      back f t = here f t.0 t.2 (found e t.0 t.1)

  of_nothing : (o : Opened) → opened e ≡ o → (o ≡ form.Float → ⊥) → parts_of o ≡ [] → IsLeast (FloatBroken e) None
  of_nothing o is other none =
      of_parts o None is other (subst (λ (es : List Expr). IsLeast (FloatAmong es) None) (sym none) (least_none (λ f t. no_item t.0 t.1 t.2)))

  pub number_arm : (n : ℤ) → e.form ≡ Number n → IsLeast (FloatBroken e) None
  number_arm n is = of_nothing (form.Number n) (opened_by e (Number n) (form.Number n) is (sym (rolls-Number n))) (λ same. cc) refl

  pub text_arm : (t : List ℕ) → e.form ≡ Text t → IsLeast (FloatBroken e) None
  text_arm t is = of_nothing (form.Text t) (opened_by e (Text t) (form.Text t) is (sym (rolls-Text t))) (λ same. cc) refl

  pub truth_arm : (b : Bool) → e.form ≡ Truth b → IsLeast (FloatBroken e) None
  truth_arm b is = of_nothing (form.Truth b) (opened_by e (Truth b) (form.Truth b) is (sym (rolls-Truth b))) (λ same. cc) refl

  pub use_arm : (name : Qual) → e.form ≡ Use name → IsLeast (FloatBroken e) None
  use_arm name is = of_nothing (form.Use name) (opened_by e (Use name) (form.Use name) is (sym (rolls-Use name))) (λ same. cc) refl

  -- a float has no parts
  only_itself : (f : Refusal) → opened e ≡ form.Float → f ≡ broken_at FloatUsed e.at.first → (g : Refusal) (place : Place) → g ≡ broken_at FloatUsed place
      → IsItself e place ⊎ InPart e place → g ≡ f
  only_itself f is made g place same (inl t) = same ∙ ap (broken_at FloatUsed) (sym t.1) ∙ sym made
  only_itself f is made g place same (inr t) = absurd (no_item t.0 t.1 (ap (λ (x : Opened). slice_get (parts_of x) t.0) (sym is) ∙ t.2))

  pub float_arm : (f : Refusal) → e.form ≡ Float → f ≡ broken_at FloatUsed e.at.first → IsLeast (FloatBroken e) (Some f)
  float_arm f is made =
      let is_float = opened_by e Float form.Float is (sym rolls-Float) in
      least_only f (e.at.first, itself is_float, made) (λ g t. only_itself f is_float made g t.0 t.2 (found e t.0 t.1))

  pub minus_arm : (a : Expr) (r : Option Refusal) → e.form ≡ Minus a → IsLeast (FloatBroken a) r → IsLeast (FloatBroken e) r
  minus_arm a r is l = of_parts (form.Minus a) r (opened_by e (Minus a) (form.Minus a) is (sym (rolls-Minus a))) (λ same. cc) (least_of_one FloatBroken a r l)

  pub parentheses_arm : (a : Expr) (r : Option Refusal) → e.form ≡ Parentheses a → IsLeast (FloatBroken a) r → IsLeast (FloatBroken e) r
  parentheses_arm a r is l =
      of_parts (form.Parentheses a) r (opened_by e (Parentheses a) (form.Parentheses a) is (sym (rolls-Parentheses a))) (λ same. cc) (least_of_one FloatBroken a r l)

  pub binary_arm : (operator : Operator) (a b : Expr) (one other r : Option Refusal) → e.form ≡ Binary operator a b → r ≡ lesser_of one other
      → IsLeast (FloatBroken a) one → IsLeast (FloatBroken b) other → IsLeast (FloatBroken e) r
  binary_arm operator a b one other r is made l m =
      of_parts (form.Binary operator a b) r (opened_by e (Binary operator a b) (form.Binary operator a b) is (sym (rolls-Binary operator a b))) (λ same. cc)
      (least_of_two FloatBroken a b one other r made l m)

  pub array_arm : (items : List Expr) (r : Option Refusal) → e.form ≡ Array items → IsLeast (FloatAmong items) r → IsLeast (FloatBroken e) r
  array_arm items r is l = of_parts (form.Array items) r (opened_by e (Array items) (form.Array items) is (sym (rolls-Array items))) (λ same. cc) l

  pub struct_arm : (members : List Assignment) (r : Option Refusal) → e.form ≡ Struct members → IsLeast (FloatAmong (values_in members)) r
      → IsLeast (FloatBroken e) r
  struct_arm members r is l = of_parts (form.Struct members) r (opened_by e (Struct members) (form.Struct members) is (sym (rolls-Struct members))) (λ same. cc) l
