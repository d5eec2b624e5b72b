-- Items that are kept of a list, one by one.
use Rattle.std.proofs.Common.{◌≡◌, ◌<◌, ◌≤◌, ℕ, ◌+◌, Bool, true, false, cond, List, [], ◌∷◌, ◌++◌, length, get_or, take, filter, sym, ap, ◌∙◌, append-nil}
use Rattle.std.proofs.lemmas.List.{take_all}
use Rattle.std.proofs.lemmas.List.Elements.{filter_more}

module _ (p : ℕ → Bool) (xs : List ℕ) where
  pub kept_more : (i x y : ℕ) (old new : List ℕ) → i < length xs → x ≡ get_or xs i y → p x ≡ true → new ≡ old ++ x ∷ [] → old ≡ filter p (take i xs) → new ≡ filter p (take (i + 1) xs)
  kept_more i x y old new lt is holds grown before =
      grown ∙ ap (λ (zs : List ℕ). zs ++ x ∷ []) before ∙ ap (λ (b : Bool). filter p (take i xs) ++ cond b (x ∷ []) []) (sym holds)
      ∙ ap (λ (z : ℕ). filter p (take i xs) ++ cond (p z) (z ∷ []) []) is ∙ sym (filter_more p xs i y lt)

  pub left_out : (i x y : ℕ) (old : List ℕ) → i < length xs → x ≡ get_or xs i y → p x ≡ false → old ≡ filter p (take i xs) → old ≡ filter p (take (i + 1) xs)
  left_out i x y old lt is holds before =
      before ∙ sym (append-nil (filter p (take i xs))) ∙ ap (λ (b : Bool). filter p (take i xs) ++ cond b (x ∷ []) []) (sym holds)
      ∙ ap (λ (z : ℕ). filter p (take i xs) ++ cond (p z) (z ∷ []) []) is ∙ sym (filter_more p xs i y lt)

  pub kept_all : (i : ℕ) (row : List ℕ) → length xs ≤ i → row ≡ filter p (take i xs) → row ≡ filter p xs
  kept_all i row past h = h ∙ ap (filter p) (take_all i xs past)
