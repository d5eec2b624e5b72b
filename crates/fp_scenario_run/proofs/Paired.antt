-- Two lists whose items are related one by one.
use Rattle.std.proofs.Common.{◌≡◌, ℕ, zero, suc, Bool, List, [], ◌∷◌, ◌++◌, Some, slice_get, refl, sym, ◌∙◌, subst}
use Rattle.fp_base.proofs.Options.{same_some}
use Rattle.fp_tables.specs.Lists.{some_and}
use Rattle.fp_scenario.specs.Same.{Paired}
use Rattle.fp_scenario_check.specs.Planned.{Pairwise, IsRepeated}

module _ {A : Type 0} (R : A → A → Type 0) where
  -- what stands at a place has something beside it
  pub beside : (xs ys : List A) (n : ℕ) (x : A) → Paired R xs ys → slice_get xs n ≡ Some x → (y : A) × (slice_get ys n ≡ Some y) × R x y
  beside [] ys n x h found = absurd (cc)
  beside (a ∷ xs) [] n x h found = absurd h
  beside (a ∷ xs) (b ∷ ys) zero x h found = (b, refl, subst (λ z. R z b) (same_some found) h.0)
  beside (a ∷ xs) (b ∷ ys) (suc n) x h found = beside xs ys n x h.1 found

  pub paired_append : (xs ys us vs : List A) → Paired R xs ys → Paired R us vs → Paired R (xs ++ us) (ys ++ vs)
  paired_append [] [] us vs h k = k
  paired_append [] (y ∷ ys) us vs h k = absurd h
  paired_append (x ∷ xs) [] us vs h k = absurd h
  paired_append (x ∷ xs) (y ∷ ys) us vs h k = (h.0, paired_append xs ys us vs h.1 k)

  -- what is planned of the one list is planned of the other
  pub planned_beside : {B : Type 0} (P : A → B → Type 0) → ((x y : A) (b : B) → R x y → P x b → P y b) → (xs ys : List A) (bs : List B) → Paired R xs ys → Pairwise P xs bs → Pairwise P ys bs
  planned_beside P over [] [] [] h p = tt
  planned_beside P over [] [] (b ∷ bs) h p = absurd p
  planned_beside P over [] (y ∷ ys) bs h p = absurd h
  planned_beside P over (x ∷ xs) [] bs h p = absurd h
  planned_beside P over (x ∷ xs) (y ∷ ys) [] h p = absurd p
  planned_beside P over (x ∷ xs) (y ∷ ys) (b ∷ bs) h p = (over x y b h.0 p.0, planned_beside P over xs ys bs h.1 p.1)

  -- ---- what is given twice

  module _ (same : A → A → Bool) (alike : (x y u v : A) → R x y → R u v → same x u ≡ same y v) where
    some_alike : (xs ys : List A) (n : ℕ) (x y : A) → Paired R xs ys → R x y → some_and (λ z. same x z) (slice_get xs n) ≡ some_and (λ z. same y z) (slice_get ys n)
    some_alike [] [] n x y h r = refl
    some_alike [] (v ∷ ys) n x y h r = absurd h
    some_alike (u ∷ xs) [] n x y h r = absurd h
    some_alike (u ∷ xs) (v ∷ ys) zero x y h r = alike x y u v r h.0
    some_alike (u ∷ xs) (v ∷ ys) (suc n) x y h r = some_alike xs ys n x y h.1 r

    twice_alike : (all others xs ys : List A) (m n : ℕ) → Paired R all others → Paired R xs ys
        → some_and (λ x. some_and (λ y. same x y) (slice_get all n)) (slice_get xs m) ≡ some_and (λ x. some_and (λ y. same x y) (slice_get others n)) (slice_get ys m)
    twice_alike all others [] [] m n g h = refl
    twice_alike all others [] (y ∷ ys) m n g h = absurd h
    twice_alike all others (x ∷ xs) [] m n g h = absurd h
    twice_alike all others (x ∷ xs) (y ∷ ys) zero n g h = some_alike all others n x y g h.0
    twice_alike all others (x ∷ xs) (y ∷ ys) (suc m) n g h = twice_alike all others xs ys m n g h.1

    pub repeated_beside : (xs ys : List A) (n : ℕ) → Paired R xs ys → IsRepeated same xs n → IsRepeated same ys n
    repeated_beside xs ys n h (m, before, given) = (m, before, sym (twice_alike xs ys xs ys m n h h) ∙ given)
