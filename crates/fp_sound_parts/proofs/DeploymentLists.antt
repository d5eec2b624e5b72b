-- Tests of lists, from what holds of their items.
use Rattle.std.proofs.Common.{◌≡◌, ℕ, zero, suc, ◌<◌, Bool, true, false, not, ◌&&◌, List, [], ◌∷◌, Some, slice_get, refl, arith}
use Rattle.std.specs.List.{list_any}
use Rattle.fp_base.proofs.Bools.{join, not_either}
use Rattle.fp_tables.specs.Lists.{apart}

none_related : {A : Type 0} (test : A → Bool) (xs : List A) → ((k : ℕ) (x : A) → slice_get xs k ≡ Some x → test x ≡ true → ⊥) → not (list_any test xs) ≡ true
none_related test [] h = refl
none_related test (x ∷ xs) h = not_either (test x) (list_any test xs) (h zero x refl) (none_related test xs (λ k y e. h (suc k) y e))

-- the test holds of no two at different places
pub all_apart : {A : Type 0} (test : A → A → Bool) (xs : List A) → ((j k : ℕ) (x y : A) → j < k → slice_get xs j ≡ Some x → slice_get xs k ≡ Some y → test x y ≡ true → ⊥) → apart test xs ≡ true
all_apart test [] h = refl
all_apart test (x ∷ xs) h =
    join (not (list_any (test x) xs)) (apart test xs) (none_related (test x) xs (λ k y e same. h zero (suc k) x y (omega arith) refl e same))
    (all_apart test xs (λ j k y z l d e same. h (suc j) (suc k) y z (omega arith) d e same))

pub four : (a b c d : Bool) → a ≡ true → b ≡ true → c ≡ true → d ≡ true → (a && b && c && d) ≡ true
four true true true true p q r s = refl
four false b c d p q r s = absurd (cc)
four true false c d p q r s = absurd (cc)
four true true false d p q r s = absurd (cc)
four true true true false p q r s = absurd (cc)
