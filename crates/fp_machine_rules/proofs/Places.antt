-- What stands in one of two lists, and how many are marked.
use Rattle.std.proofs.Common.{◌≡◌, ℕ, zero, suc, ◌≤◌, ◌⊎◌, Bool, true, false, List, [], ◌∷◌, ◌++◌, length, set, slice_get, Some, refl, ap, inl, inr, arith}
use Rattle.fp_machine_rules.specs.Reaching.{IsAmong}
use Rattle.fp_machine_rules.specs.Visits.{count_true}

pub behind : {A : Type 0} (xs ys : List A) (y : A) → IsAmong ys y → IsAmong (xs ++ ys) y
behind [] ys y h = h
behind (x ∷ xs) ys y h = let t = behind xs ys y h in (suc t.0, t.1)

pub in_one_part : {A : Type 0} (xs ys : List A) (y : A) → IsAmong (xs ++ ys) y → IsAmong xs y ⊎ IsAmong ys y
in_one_part [] ys y h = inr h
in_one_part {A = A} (x ∷ xs) ys y (zero, e) = inl (zero, e)
in_one_part {A = A} (x ∷ xs) ys y (suc k, e) = go (in_one_part xs ys y (k, e))
  where
    go : IsAmong xs y ⊎ IsAmong ys y → IsAmong (x ∷ xs) y ⊎ IsAmong ys y
    go (inl t) = inl (suc t.0, t.1)
    go (inr t) = inr t

pub count_short : (bs : List Bool) → count_true bs ≤ length bs
count_short [] = omega arith
count_short (true ∷ bs) = omega (arith, count_short bs)
count_short (false ∷ bs) = omega (arith, count_short bs)

pub count_set : (bs : List Bool) (i : ℕ) → slice_get bs i ≡ Some false → count_true (set bs i true) ≡ suc (count_true bs)
count_set [] i e = cc
count_set (true ∷ bs) zero e = cc
count_set (false ∷ bs) zero e = refl
count_set (true ∷ bs) (suc i) e = ap suc (count_set bs i e)
count_set (false ∷ bs) (suc i) e = count_set bs i e
