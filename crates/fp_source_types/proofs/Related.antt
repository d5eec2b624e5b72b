-- What stands at a place of two lists that are related place by place.
use Rattle.std.proofs.Common.{◌≡◌, ℕ, zero, suc, ◌+◌, List, [], ◌∷◌, slice_get, Some, refl, subst, arith}
use Rattle.fp_base.proofs.Options.{same_some, no_some}
use Rattle.fp_type_forms.specs.Written.{AllAt}

-- what stands there in the first list, and what in the second
pub related_at : {A B : Type 0} (R : ℕ → A → B → Type 0) (k : ℕ) (xs : List A) (ys : List B) (i j : ℕ) (y : B) → j ≡ k + i → AllAt R k xs ys → slice_get ys i ≡ Some y
    → (x : A) × (slice_get xs i ≡ Some x) × R j x y
related_at R k [] [] i j y is all e = no_some e
related_at R k [] (z ∷ ys) i j y is all e = absurd all
related_at R k (x ∷ xs) [] i j y is all e = absurd all
related_at R k (x ∷ xs) (z ∷ ys) zero j y is all e =
    let at : k ≡ j = omega arith in
    (x, refl, subst (λ (n : ℕ). R n x y) at (subst (λ v. R k x v) (same_some e) all.0))
related_at R k (x ∷ xs) (z ∷ ys) (suc i) j y is all e = related_at R (suc k) xs ys i j y (omega arith) all.1 e

pub related_to : {A B : Type 0} (R : ℕ → A → B → Type 0) (k : ℕ) (xs : List A) (ys : List B) (i j : ℕ) (x : A) → j ≡ k + i → AllAt R k xs ys → slice_get xs i ≡ Some x
    → (y : B) × (slice_get ys i ≡ Some y) × R j x y
related_to R k [] ys i j x is all e = no_some e
related_to R k (z ∷ xs) [] i j x is all e = absurd all
related_to R k (z ∷ xs) (y ∷ ys) zero j x is all e =
    let at : k ≡ j = omega arith in
    (y, refl, subst (λ (n : ℕ). R n x y) at (subst (λ v. R k v y) (same_some e) all.0))
related_to R k (z ∷ xs) (y ∷ ys) (suc i) j x is all e = related_to R (suc k) xs ys i j x (omega arith) all.1 e
