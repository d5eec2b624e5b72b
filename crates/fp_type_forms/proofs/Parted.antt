-- The names that an expression repeats, by the form that stands in the tree.
use Rattle.std.proofs.Common.{◌≡◌, ℕ, zero, suc, ℤ, Bool, List, [], ◌∷◌, slice_get, Option, Some, None, option_map, refl, inl, inr, sym, ap, ◌∙◌, subst}
use Rattle.std.proofs.lemmas.Option.{slice_get-map}
use Rattle.fp_base.proofs.Calculus.{least_along, least_either, least_none, least_same}
use Rattle.fp_base.proofs.Options.{mapped_some, same_some, no_some}
use Rattle.fp_base.specs.Least.{Either, InSome, IsLeast, lesser_of}
use Rattle.fp_base.specs.declared.refusal.Refusal.{Refusal}
use Rattle.fp_tree.specs.declared.name.Qual.{Qual}
use Rattle.fp_tree.specs.declared.expression.Operator.{Operator}
use Rattle.fp_tree.specs.declared.expression.Expr.{Expr}
use Rattle.fp_tree.specs.declared.expression.Assignment.{Assignment}
use Rattle.fp_tree.specs.declared.expression.Form.TheOpen as form
use Rattle.fp_tree.specs.declared.expression.Form.TheVariants.{Number, rolls-Number, Float, rolls-Float, Text, rolls-Text, Truth, rolls-Truth, Use, rolls-Use, Minus, rolls-Minus, Parentheses, rolls-Parentheses, Binary, rolls-Binary, Array, rolls-Array, Struct, rolls-Struct}
use Rattle.fp_meaning.specs.ConstantFaults.{parts_of}
use Rattle.fp_meaning.specs.Values.{Opened, opened, values_in}
use Rattle.fp_meaning.proofs.Opened.{opened_by}
use Rattle.fp_type_forms.specs.Broken.{RepeatsIn, RepeatsName, itself, within}

abbrev Within : List Expr → Refusal → Type 0
Within parts = InSome (λ k. RepeatsIn) parts

-- an expression that is no struct repeats what its parts repeat
abbrev HasNoNames : Opened → Type 0
HasNoNames (form.Struct members) = ⊥
HasNoNames _ = Unit {0}

by_parts : (e : Expr) (s : Opened) (o : Option Refusal) → opened e ≡ s → HasNoNames s → IsLeast (Within (parts_of s)) o → IsLeast (RepeatsIn e) o
by_parts e s o is plain l = least_same into out l
  where
    into : (f : Refusal) → Within (parts_of s) f → RepeatsIn e f
    into f t = within t.0 (subst (λ (x : Opened). slice_get (parts_of x) t.0 ≡ Some t.1) (sym is) t.2) t.3

    out : (f : Refusal) → RepeatsIn e f → Within (parts_of s) f
    out f (itself h t) = absurd (subst HasNoNames (sym is ∙ h) plain)
    out f (within {part = part} k at b) = (k, part, subst (λ (x : Opened). slice_get (parts_of x) k ≡ Some part) is at, b)

within_none : IsLeast (Within []) None
within_none = least_none (λ f t. no_some t.2)

within_one : (a : Expr) (o : Option Refusal) → IsLeast (RepeatsIn a) o → IsLeast (Within (a ∷ [])) o
within_one a o l = least_same (λ f b. (0, a, refl, b)) back l
  where
    back : (f : Refusal) → Within (a ∷ []) f → RepeatsIn a f
    back f (zero, x, at, b) = subst (λ (e : Expr). RepeatsIn e f) (sym (same_some at)) b
    back f (suc k, x, at, b) = no_some at

within_two : (a b : Expr) (o q : Option Refusal) → IsLeast (RepeatsIn a) o → IsLeast (RepeatsIn b) q → IsLeast (Within (a ∷ b ∷ [])) (lesser_of o q)
within_two a b o q l m = least_same to back (least_either o q l m)
  where
    to : (f : Refusal) → Either (RepeatsIn a) (RepeatsIn b) f → Within (a ∷ b ∷ []) f
    to f (inl h) = (0, a, refl, h)
    to f (inr h) = (1, b, refl, h)

    back : (f : Refusal) → Within (a ∷ b ∷ []) f → Either (RepeatsIn a) (RepeatsIn b) f
    back f (zero, x, at, h) = inl (subst (λ (e : Expr). RepeatsIn e f) (sym (same_some at)) h)
    back f (suc zero, x, at, h) = inr (subst (λ (e : Expr). RepeatsIn e f) (sym (same_some at)) h)
    back f (suc (suc k), x, at, h) = no_some at

-- ---- each form

module _ (e : Expr) where
  pub number_arm : (n : ℤ) → e.form ≡ Number n → IsLeast (RepeatsIn e) None
  number_arm n is = by_parts e (form.Number n) None (opened_by e (Number n) (form.Number n) is (sym (rolls-Number n))) tt within_none

  pub float_arm : e.form ≡ Float → IsLeast (RepeatsIn e) None
  float_arm is = by_parts e form.Float None (opened_by e Float form.Float is (sym rolls-Float)) tt within_none

  pub text_arm : (t : List ℕ) → e.form ≡ Text t → IsLeast (RepeatsIn e) None
  text_arm t is = by_parts e (form.Text t) None (opened_by e (Text t) (form.Text t) is (sym (rolls-Text t))) tt within_none

  pub truth_arm : (b : Bool) → e.form ≡ Truth b → IsLeast (RepeatsIn e) None
  truth_arm b is = by_parts e (form.Truth b) None (opened_by e (Truth b) (form.Truth b) is (sym (rolls-Truth b))) tt within_none

  pub use_arm : (name : Qual) → e.form ≡ Use name → IsLeast (RepeatsIn e) None
  use_arm name is = by_parts e (form.Use name) None (opened_by e (Use name) (form.Use name) is (sym (rolls-Use name))) tt within_none

  pub minus_arm : (a : Expr) (o : Option Refusal) → e.form ≡ Minus a → IsLeast (RepeatsIn a) o → IsLeast (RepeatsIn e) o
  minus_arm a o is l = by_parts e (form.Minus a) o (opened_by e (Minus a) (form.Minus a) is (sym (rolls-Minus a))) tt (within_one a o l)

  pub parentheses_arm : (a : Expr) (o : Option Refusal) → e.form ≡ Parentheses a → IsLeast (RepeatsIn a) o → IsLeast (RepeatsIn e) o
  parentheses_arm a o is l =
      by_parts e (form.Parentheses a) o (opened_by e (Parentheses a) (form.Parentheses a) is (sym (rolls-Parentheses a))) tt (within_one a o l)

  pub binary_arm : (operator : Operator) (a b : Expr) (o q r : Option Refusal) → e.form ≡ Binary operator a b → r ≡ lesser_of o q
      → IsLeast (RepeatsIn a) o → IsLeast (RepeatsIn b) q → IsLeast (RepeatsIn e) r
  binary_arm operator a b o q r is made l m =
      by_parts e (form.Binary operator a b) r (opened_by e (Binary operator a b) (form.Binary operator a b) is (sym (rolls-Binary operator a b))) tt
      (least_along (sym made) (within_two a b o q l m))

  pub array_arm : (items : List Expr) (o : Option Refusal) → e.form ≡ Array items → IsLeast (InSome (λ k. RepeatsIn) items) o → IsLeast (RepeatsIn e) o
  array_arm items o is l = by_parts e (form.Array items) o (opened_by e (Array items) (form.Array items) is (sym (rolls-Array items))) tt l

abbrev the_members : Opened → List Assignment
the_members (form.Struct members) = members
the_members _ = []

-- a struct repeats its own names, and what the values of its members repeat
struct_whole : (e : Expr) (members : List Assignment) (o q : Option Refusal) → opened e ≡ form.Struct members
    → IsLeast (InSome (RepeatsName (λ (m : Assignment). m.name) members) members) o → IsLeast (InSome (λ k (m : Assignment). RepeatsIn m.value) members) q
    → IsLeast (RepeatsIn e) (lesser_of o q)
struct_whole e members o q is l m = least_same to back (least_either o q l m)
  where
    value_at : (k : ℕ) → slice_get (values_in members) k ≡ option_map (λ (x : Assignment). x.value) (slice_get members k)
    value_at k = slice_get-map (λ (x : Assignment). x.value) members k

    to : (f : Refusal) → Either (InSome (RepeatsName (λ (x : Assignment). x.name) members) members) (InSome (λ k (x : Assignment). RepeatsIn x.value) members) f → RepeatsIn e f
    to f (inl t) = itself is t
    to f (inr t) =
        within t.0 (subst (λ (x : Opened). slice_get (parts_of x) t.0 ≡ Some t.1.value) (sym is) (value_at t.0 ∙ ap (λ (x : Option Assignment). option_map (λ (y : Assignment). y.value) x) t.2)) t.3

    back : (f : Refusal) → RepeatsIn e f → Either (InSome (RepeatsName (λ (x : Assignment). x.name) members) members) (InSome (λ k (x : Assignment). RepeatsIn x.value) members) f
    back f (itself {members = others} h t) =
        let same : others ≡ members = ap the_members (sym h ∙ is) in
        inl (subst (λ (xs : List Assignment). InSome (RepeatsName (λ (x : Assignment). x.name) xs) xs f) same t)
    back f (within {part = part} k at b) =
        let here : slice_get (values_in members) k ≡ Some part = subst (λ (x : Opened). slice_get (parts_of x) k ≡ Some part) is at in
        let t = mapped_some (λ (x : Assignment). x.value) (slice_get members k) part (sym (value_at k) ∙ here) in
        inr (k, t.0, t.1, subst (λ (x : Expr). RepeatsIn x f) (sym t.2) b)

pub struct_arm : (e : Expr) (members : List Assignment) (o q r : Option Refusal) → e.form ≡ Struct members → r ≡ lesser_of o q
    → IsLeast (InSome (RepeatsName (λ (m : Assignment). m.name) members) members) o → IsLeast (InSome (λ k (m : Assignment). RepeatsIn m.value) members) q
    → IsLeast (RepeatsIn e) r
struct_arm e members o q r is made l m =
    least_along (sym made) (struct_whole e members o q (opened_by e (Struct members) (form.Struct members) is (sym (rolls-Struct members))) l m)
