-- Flags of a table, and how many aren't set.
use Rattle.std.proofs.Common.{◌≡◌, ℕ, zero, suc, Bool, true, false, List, [], ◌∷◌, replicate, set, slice_get, Some, refl, sym, ap}
use Rattle.std.specs.Prelude.{unwrap_or}
use Rattle.fp_base.proofs.Options.{same_some}

abbrev pub unset : List Bool → ℕ
unset [] = 0
unset (true ∷ bs) = unset bs
unset (false ∷ bs) = suc (unset bs)

pub none_set : (n : ℕ) → unset (replicate n false) ≡ n
none_set zero = refl
none_set (suc n) = ap suc (none_set n)

-- one that is set, or isn't there, stays
pub set_again : (xs : List Bool) (k : ℕ) → unwrap_or (slice_get xs k) true ≡ true → set xs k true ≡ xs
set_again [] k h = refl
set_again (x ∷ xs) zero h = ap (λ (b : Bool). b ∷ xs) (sym h)
set_again (x ∷ xs) (suc k) h = ap (λ (bs : List Bool). x ∷ bs) (set_again xs k h)

pub fewer_unset : (xs : List Bool) (k : ℕ) → slice_get xs k ≡ Some false → unset xs ≡ suc (unset (set xs k true))
fewer_unset [] k h = absurd (cc)
fewer_unset (true ∷ xs) zero h = (let e : true ≡ false = same_some h in absurd (cc))
fewer_unset (false ∷ xs) zero h = refl
fewer_unset (true ∷ xs) (suc k) h = fewer_unset xs k h
fewer_unset (false ∷ xs) (suc k) h = ap suc (fewer_unset xs k h)
