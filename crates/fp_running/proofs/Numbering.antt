-- Lists of which each item is what is said of its number, and numbers that stand once in a list.
use Rattle.std.proofs.Common.{◌≡◌, ◌≢◌, ℕ, zero, suc, Bool, true, not, ◌||◌, ◌==◌, List, [], ◌∷◌, length, slice_set, Option, Some, None, refl, ap, ◌∙◌, sym, subst, arith}
use Rattle.std.specs.List.{list_any, slice_get}
use Rattle.fp_base.proofs.Bools.{both, or_right, never_true}
use Rattle.fp_base.proofs.Options.{same_some}
use Rattle.fp_base.proofs.Sameness.{nat_same}
use Rattle.fp_tables.specs.Names.{numbers_differ}

-- one item is put in the place of another, and what is said of the others holds
pub each_set : {A : Type 0} (P : ℕ → A → Type 0) (xs : List A) (i : ℕ) (y : A) → ((k : ℕ) (x : A) → i ≢ k → slice_get xs k ≡ Some x → P k x) → P i y
    → (k : ℕ) (x : A) → slice_get (slice_set xs i y) k ≡ Some x → P k x
each_set P [] i y others here k x at = absurd (cc)
each_set P (z ∷ xs) zero y others here zero x at = subst (P zero) (same_some at) here
each_set P (z ∷ xs) zero y others here (suc k) x at = others (suc k) x (λ e. omega (arith, e)) at
each_set P (z ∷ xs) (suc i) y others here zero x at = others zero x (λ e. omega (arith, e)) at
each_set P (z ∷ xs) (suc i) y others here (suc k) x at =
    each_set (λ j. P (suc j)) xs i y (λ j u other there. others (suc j) u (λ e. other (omega (arith, e))) there) here k x at

pub length_set : {A : Type 0} (xs : List A) (i : ℕ) (y : A) → length (slice_set xs i y) ≡ length xs
length_set [] i y = refl
length_set (z ∷ xs) zero y = refl
length_set (z ∷ xs) (suc i) y = ap suc (length_set xs i y)

module _ (x : ℕ) where
  stands : (xs : List ℕ) (k : ℕ) → slice_get xs k ≡ Some x → list_any (λ m. x == m) xs ≡ true
  stands [] k h = absurd (cc)
  stands (y ∷ xs) zero h = ap (λ (b : Bool). b || list_any (λ m. x == m) xs) (ap (λ (m : ℕ). x == m) (same_some h) ∙ nat_same.itself x)
  stands (y ∷ xs) (suc k) h = or_right (x == y) (list_any (λ m. x == m) xs) (stands xs k h)

  stands_once : (xs : List ℕ) (k : ℕ) → not (list_any (λ m. x == m) xs) ≡ true → slice_get xs k ≡ Some x → ⊥
  stands_once xs k out h = never_true (list_any (λ m. x == m) xs) out (stands xs k h)

-- of numbers that differ, one stands in one place
pub one_place : (xs : List ℕ) → numbers_differ xs ≡ true → (j k i : ℕ) → slice_get xs j ≡ Some i → slice_get xs k ≡ Some i → j ≡ k
one_place [] differ j k i at there = absurd (cc)
one_place (x ∷ xs) differ zero zero i at there = refl
one_place (x ∷ xs) differ zero (suc k) i at there =
    absurd (stands_once x xs k (both (not (list_any (λ m. x == m) xs)) (numbers_differ xs) differ).0 (there ∙ ap Some (sym (same_some at))))
one_place (x ∷ xs) differ (suc j) zero i at there =
    absurd (stands_once x xs j (both (not (list_any (λ m. x == m) xs)) (numbers_differ xs) differ).0 (at ∙ ap Some (sym (same_some there))))
one_place (x ∷ xs) differ (suc j) (suc k) i at there =
    ap suc (one_place xs (both (not (list_any (λ m. x == m) xs)) (numbers_differ xs) differ).1 j k i at there)
