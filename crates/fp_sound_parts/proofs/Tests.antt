-- Tests of items by their positions.
use Rattle.std.proofs.Common.{◌≡◌, ℕ, suc, ◌+◌, Bool, true, List, [], ◌∷◌, slice_get, Some, refl, sym, ap, ◌∙◌, arith}
use Rattle.fp_base.proofs.Bools.{join}
use Rattle.fp_tables.specs.Lists.{all_from}

pub all_from_each : {A : Type 0} (test : ℕ → A → Bool) (n : ℕ) (xs : List A) → ((k : ℕ) (x : A) → slice_get xs k ≡ Some x → test (n + k) x ≡ true) → all_from test n xs ≡ true
all_from_each test n [] each = refl
all_from_each {A = A} test n (x ∷ xs) each =
    let z : n + 0 ≡ n = omega arith in
    join (test n x) (all_from test (suc n) xs) (ap (λ (m : ℕ). test m x) (sym z) ∙ each 0 x refl) (all_from_each test (suc n) xs later)
  where
    later : (k : ℕ) (y : A) → slice_get xs k ≡ Some y → test (suc n + k) y ≡ true
    later k y e = let z : n + suc k ≡ suc n + k = omega arith in ap (λ (m : ℕ). test m y) (sym z) ∙ each (suc k) y e
