-- The value and the faults of a negation and of an operator, from those of the operands.
use Rattle.std.proofs.Common.{◌≡◌, ℤ, neg_ℤ, pos, FitsSigned, Option, Some, None, option_map, refl, inl, inr, sym, ap, subst, ◌∙◌}
use Rattle.std.specs.Int.{w128}
use Rattle.fp_base.proofs.Options.{same_some}
use Rattle.fp_base.specs.declared.place.Place.{Place}
use Rattle.fp_base.specs.declared.refusal.Refusal.{Refusal}
use Rattle.fp_base.specs.declared.value.Value.{Value, Int}
use Rattle.fp_tree.specs.declared.source.Source.{Source}
use Rattle.fp_tree.specs.declared.expression.Operator.{Operator}
use Rattle.fp_tree.specs.declared.expression.Operator.TheVariants.{Divide}
use Rattle.fp_tree.specs.declared.expression.Expr.{Expr}
use Rattle.fp_tree.specs.declared.expression.Form.TheOpen as form
use Rattle.fp_base.specs.Least.{Either}
use Rattle.fp_meaning.specs.Names.{Path}
use Rattle.fp_meaning.specs.Values.{Opened, opened, number_in, result_of, HasResult, Val, negated, combined, IsValue}
use Rattle.fp_meaning.specs.ConstantFaults.{BrokenHere, negation_outside, result_outside, zero_divisor, minus_kind, left_kind, right_kind}
use Rattle.fp_consts.specs.declared.operand.Operand.{Operand}
use Rattle.fp_consts.specs.declared.operand.Operand.TheVariants.{Missing, Number, Other}
use Rattle.fp_consts.specs.Operands.{operand_with, operand_of, KindFault, NegationFault, OperationFault, NegationIs, OperationIs}

-- a value by what an operand says of it
with_number : (v : Value) (n : Option ℤ) (x : ℤ) → number_in v ≡ n → operand_with n ≡ Number x → number_in v ≡ Some x
with_number v None x e h = cc
with_number v (Some y) x e h = let same : y ≡ x = cc in e ∙ ap (λ (z : ℤ). Some z) same

with_other : (v : Value) (n : Option ℤ) → number_in v ≡ n → operand_with n ≡ Other → number_in v ≡ None
with_other v None e h = e
with_other v (Some y) e h = cc

pub has_number : (o : Option Value) (x : ℤ) → operand_of o ≡ Number x → (u : Value) × (o ≡ Some u) × (number_in u ≡ Some x)
has_number None x e = cc
has_number (Some u) x e = (u, refl, with_number u (number_in u) x refl e)

pub has_other : (o : Option Value) → operand_of o ≡ Other → (u : Value) × (o ≡ Some u) × (number_in u ≡ None)
has_other None e = cc
has_other (Some u) e = (u, refl, with_other u (number_in u) refl e)

pub as_number : {o : Option Value} {u : Value} {x : ℤ} → o ≡ Some u → number_in u ≡ Some x → operand_of o ≡ Number x
as_number e i = ap operand_of e ∙ ap operand_with i

pub as_other : {o : Option Value} {u : Value} → o ≡ Some u → number_in u ≡ None → operand_of o ≡ Other
as_other e i = ap operand_of e ∙ ap operand_with i

same_number : {x y : ℤ} → Number x ≡ Number y → x ≡ y
same_number e = cc

-- what an operator breaks
abbrev pub BinaryHere : Place → Operator → Expr → Expr → Option Value → Option Value → Refusal → Type 0
BinaryHere place operator a b o q =
    Either (OperationFault place operator (operand_of o) (operand_of q)) (Either (KindFault a.at.first (operand_of o)) (KindFault b.at.first (operand_of q)))

module _ {source : Source} {scope : Path} where
  of_minus : {a : Expr} {v : Value} → Val source scope (form.Minus a) v
      → (u : Value) × (x : ℤ) × Val source scope (opened a) u × (number_in u ≡ Some x) × FitsSigned w128 (neg_ℤ x) × (v ≡ Int (neg_ℤ x))
  of_minus (negated {u = u} {x = x} h i f) = (u, x, h, i, f, refl)

  of_binary : {operator : Operator} {a b : Expr} {v : Value} → Val source scope (form.Binary operator a b) v
      → (u : Value) × (w : Value) × (x : ℤ) × (y : ℤ) × Val source scope (opened a) u × (number_in u ≡ Some x)
      × Val source scope (opened b) w × (number_in w ≡ Some y) × HasResult operator x y × (v ≡ Int (result_of operator x y))
  of_binary (combined {u = u} {w = w} {x = x} {y = y} h i k j r) = (u, w, x, y, h, i, k, j, r, refl)

  -- the number of an operand whose value is known
  number_of : {s : Opened} {o : Option Value} {u : Value} {x : ℤ} → IsValue source scope s o → Val source scope s u → number_in u ≡ Some x → operand_of o ≡ Number x
  number_of value h i = as_number (value.only _ h) i

  pub negation_value : {a : Expr} (o : Option Value) (r : Option ℤ)
      → IsValue source scope (opened a) o → NegationIs (operand_of o) r → IsValue source scope (form.Minus a) (option_map (λ n. Int n) r)
  negation_value {a = a} o r value is = go (operand_of o) refl r is
    where
      nothing : (p : Operand) → operand_of o ≡ p → ((x : ℤ) → p ≡ Number x → ⊥) → (r : Option ℤ) → r ≡ None → IsValue source scope (form.Minus a) (option_map (λ n. Int n) r)
      nothing p e never (Some z) n = cc
      nothing p e never None n = record {
        holds = λ v j. cc;
        only = λ v h. let t = of_minus h in absurd (never t.1 (sym e ∙ number_of value t.2 t.3));
      }

      go : (p : Operand) → operand_of o ≡ p → (r : Option ℤ) → NegationIs p r → IsValue source scope (form.Minus a) (option_map (λ n. Int n) r)
      go Missing e r n = nothing Missing e (λ x j. cc) r n
      go Other e r n = nothing Other e (λ x j. cc) r n
      go (Number x) e None unfit = record {
        holds = λ v j. cc;
        only = λ v h.
            let t = of_minus h in
            let same : t.1 ≡ x = same_number (sym (number_of value t.2 t.3) ∙ e) in
            absurd (unfit (subst (λ (z : ℤ). FitsSigned w128 (neg_ℤ z)) same t.4));
      }
      go (Number x) e (Some z) fit = record {
        holds = λ v j.
            let t = has_number o x e in
            subst (λ (w : Value). Val source scope (form.Minus a) w) (ap (λ (n : ℤ). Int n) (sym fit.1) ∙ same_some j) (negated (value.holds t.0 t.1) t.2 fit.0);
        only = λ v h.
            let t = of_minus h in
            let same : t.1 ≡ x = same_number (sym (number_of value t.2 t.3) ∙ e) in
            ap (λ (n : ℤ). Some (Int n)) (fit.1 ∙ ap neg_ℤ (sym same)) ∙ ap (λ (w : Value). Some w) (sym t.5);
      }

  pub operation_value : {operator : Operator} {a b : Expr} (o q : Option Value) (r : Option ℤ)
      → IsValue source scope (opened a) o → IsValue source scope (opened b) q → OperationIs operator (operand_of o) (operand_of q) r
      → IsValue source scope (form.Binary operator a b) (option_map (λ n. Int n) r)
  operation_value {operator = operator} {a = a} {b = b} o q r left right is = go (operand_of o) (operand_of q) refl refl r is
    where
      nothing : (p s : Operand) → operand_of o ≡ p → operand_of q ≡ s → ((x y : ℤ) → p ≡ Number x → s ≡ Number y → ⊥) → (r : Option ℤ) → r ≡ None
          → IsValue source scope (form.Binary operator a b) (option_map (λ n. Int n) r)
      nothing p s e d never (Some z) n = cc
      nothing p s e d never None n = record {
        holds = λ v j. cc;
        only = λ v h. let t = of_binary h in absurd (never t.2 t.3 (sym e ∙ number_of left t.4 t.5) (sym d ∙ number_of right t.6 t.7));
      }

      go : (p s : Operand) → operand_of o ≡ p → operand_of q ≡ s → (r : Option ℤ) → OperationIs operator p s r
          → IsValue source scope (form.Binary operator a b) (option_map (λ n. Int n) r)
      go Missing s e d r n = nothing Missing s e d (λ x y j k. cc) r n
      go Other s e d r n = nothing Other s e d (λ x y j k. cc) r n
      go (Number x) Missing e d r n = nothing (Number x) Missing e d (λ u y j k. cc) r n
      go (Number x) Other e d r n = nothing (Number x) Other e d (λ u y j k. cc) r n
      go (Number x) (Number y) e d None unfit = record {
        holds = λ v j. cc;
        only = λ v h.
            let t = of_binary h in
            let one : t.2 ≡ x = same_number (sym (number_of left t.4 t.5) ∙ e) in
            let two : t.3 ≡ y = same_number (sym (number_of right t.6 t.7) ∙ d) in
            absurd (unfit (subst (λ (z : ℤ). HasResult operator x z) two (subst (λ (z : ℤ). HasResult operator z t.3) one t.8)));
      }
      go (Number x) (Number y) e d (Some z) fit = record {
        holds = λ v j.
            let t = has_number o x e in
            let s = has_number q y d in
            subst (λ (w : Value). Val source scope (form.Binary operator a b) w) (ap (λ (n : ℤ). Int n) (sym fit.1) ∙ same_some j)
            (combined (left.holds t.0 t.1) t.2 (right.holds s.0 s.1) s.2 fit.0);
        only = λ v h.
            let t = of_binary h in
            let one : t.2 ≡ x = same_number (sym (number_of left t.4 t.5) ∙ e) in
            let two : t.3 ≡ y = same_number (sym (number_of right t.6 t.7) ∙ d) in
            ap (λ (n : ℤ). Some (Int n)) (fit.1 ∙ ap (λ (n : ℤ). result_of operator n y) (sym one) ∙ ap (λ (n : ℤ). result_of operator t.2 n) (sym two))
            ∙ ap (λ (w : Value). Some w) (sym t.9);
      }

  -- what a minus breaks
  pub minus_here : {a : Expr} {place : Place} (o : Option Value) → IsValue source scope (opened a) o
      → ((f : Refusal) → Either (NegationFault place (operand_of o)) (KindFault a.at.first (operand_of o)) f → BrokenHere source scope place (form.Minus a) f)
      × ((f : Refusal) → BrokenHere source scope place (form.Minus a) f → Either (NegationFault place (operand_of o)) (KindFault a.at.first (operand_of o)) f)
  minus_here {a = a} {place = place} o value = (to, back)
    where
      here : Refusal → Type 0
      here f = BrokenHere source scope place (form.Minus a) f

      to : (f : Refusal) → Either (NegationFault place (operand_of o)) (KindFault a.at.first (operand_of o)) f → here f
      to f (inl t) = let u = has_number o t.0 t.1 in subst here (sym t.3) (negation_outside (value.holds u.0 u.1) u.2 t.2)
      to f (inr t) = let u = has_other o t.1 in subst here (sym t.0) (minus_kind (value.holds u.0 u.1) u.2)

      back : (f : Refusal) → here f → Either (NegationFault place (operand_of o)) (KindFault a.at.first (operand_of o)) f
      back f (negation_outside {u = u} {x = x} h i unfit) = inl (x, number_of value h i, unfit, refl)
      back f (minus_kind {u = u} h i) = inr (refl, as_other (value.only u h) i)

  binary_back : {operator : Operator} {a b : Expr} {place : Place} {f : Refusal} (o q : Option Value) → IsValue source scope (opened a) o → IsValue source scope (opened b) q
      → BrokenHere source scope place (form.Binary operator a b) f → BinaryHere place operator a b o q f
  binary_back o q left right (result_outside {x = x} {y = y} h i k j divisor unfit) = inl (inr (x, y, number_of left h i, number_of right k j, divisor, unfit, refl))
  binary_back o q left right (zero_divisor k j) = inl (inl (refl, number_of right k j, refl))
  binary_back o q left right (left_kind {u = u} h i) = inr (inl (refl, as_other (left.only u h) i))
  binary_back o q left right (right_kind {w = w} k j) = inr (inr (refl, as_other (right.only w k) j))

  pub binary_here : {operator : Operator} {a b : Expr} {place : Place} (o q : Option Value) → IsValue source scope (opened a) o → IsValue source scope (opened b) q
      → ((f : Refusal) → BinaryHere place operator a b o q f → BrokenHere source scope place (form.Binary operator a b) f)
      × ((f : Refusal) → BrokenHere source scope place (form.Binary operator a b) f → BinaryHere place operator a b o q f)
  binary_here {operator = operator} {a = a} {b = b} {place = place} o q left right = (to, λ f h. binary_back o q left right h)
    where
      here : Refusal → Type 0
      here f = BrokenHere source scope place (form.Binary operator a b) f

      to : (f : Refusal) → BinaryHere place operator a b o q f → here f
      to f (inl (inl t)) =
          let u = has_number q (pos 0) t.1 in
          subst (λ (p : Operator). BrokenHere source scope place (form.Binary p a b) f) (sym t.0)
          (subst (λ (g : Refusal). BrokenHere source scope place (form.Binary Divide a b) g) (sym t.2) (zero_divisor (right.holds u.0 u.1) u.2))
      to f (inl (inr t)) =
          let u = has_number o t.0 t.2 in
          let w = has_number q t.1 t.3 in
          subst here (sym t.6) (result_outside (left.holds u.0 u.1) u.2 (right.holds w.0 w.1) w.2 t.4 t.5)
      to f (inr (inl t)) = let u = has_other o t.1 in subst here (sym t.0) (left_kind (left.holds u.0 u.1) u.2)
      to f (inr (inr t)) = let u = has_other q t.1 in subst here (sym t.0) (right_kind (right.holds u.0 u.1) u.2)
