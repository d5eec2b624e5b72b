-- Two lists side by side, an item of each at a time.
use Rattle.std.proofs.Common.{◌≡◌, suc, Bool, true, false, ◌&&◌, List, [], ◌∷◌, length, ◌⊎◌, inl, inr, refl, sym, ap, ap₂, ◌∙◌}
use Rattle.fp_tables.specs.Lists.{all_beside}

module _ {A B : Type 0} (test : A → B → Bool) where
  pub unlike_lengths : (xs : List A) (ys : List B) → (length ys ≡ length xs → ⊥) → false ≡ all_beside test xs ys
  unlike_lengths [] [] h = absurd (h refl)
  unlike_lengths [] (y ∷ ys) h = refl
  unlike_lengths (x ∷ xs) [] h = refl
  unlike_lengths (x ∷ xs) (y ∷ ys) h = go (test x y) (unlike_lengths xs ys (λ e. h (ap suc e)))
    where
      go : (b : Bool) → false ≡ all_beside test xs ys → false ≡ (b && all_beside test xs ys)
      go true e = e
      go false e = refl

  pub beside_on : (x : A) (y : B) (xs rest : List A) (ys more : List B) → rest ≡ x ∷ xs → more ≡ y ∷ ys → true ≡ test x y →
      all_beside test rest more ≡ all_beside test xs ys
  beside_on x y xs rest ys more e f h = ap₂ (all_beside test) e f ∙ ap (λ b. b && all_beside test xs ys) (sym h)

  pub beside_off : (x : A) (y : B) (xs rest : List A) (ys more : List B) → rest ≡ x ∷ xs → more ≡ y ∷ ys → false ≡ test x y →
      all_beside test rest more ≡ false
  beside_off x y xs rest ys more e f h = ap₂ (all_beside test) e f ∙ ap (λ b. b && all_beside test xs ys) (sym h)

  pub beside_end : (rest : List A) (more : List B) → length rest ≡ length more → (rest ≡ []) ⊎ (more ≡ []) → all_beside test rest more ≡ true
  beside_end [] [] e h = refl
  beside_end [] (y ∷ ys) e h = absurd (cc)
  beside_end (x ∷ xs) [] e h = absurd (cc)
  beside_end (x ∷ xs) (y ∷ ys) e (inl h) = absurd (cc)
  beside_end (x ∷ xs) (y ∷ ys) e (inr h) = absurd (cc)
