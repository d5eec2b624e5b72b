-- Two lists that grow side by side.
use Rattle.std.proofs.Common.{◌≡◌, ◌<◌, ◌≤◌, ℕ, ◌+◌, List, [], ◌∷◌, ◌++◌, length, get_or, take, map, flat_map, refl, sym, ap, ◌∙◌, subst, append_assoc, append-nil}
use Rattle.std.proofs.lemmas.List.{take_more, take_all}
use Rattle.fp_scenario_check.specs.Planned.{Pairwise}

module _ {A B : Type 0} (P : A → B → Type 0) where
  pub beside_append : (as_ : List A) (bs : List B) (cs : List A) (ds : List B) → Pairwise P as_ bs → Pairwise P cs ds → Pairwise P (as_ ++ cs) (bs ++ ds)
  beside_append [] [] cs ds h k = k
  beside_append [] (b ∷ bs) cs ds h k = absurd h
  beside_append (a ∷ as_) [] cs ds h k = absurd h
  beside_append (a ∷ as_) (b ∷ bs) cs ds h k = (h.0, beside_append as_ bs cs ds h.1 k)

  pub beside_more : (xs : List A) (i : ℕ) (x y : A) (row new : List B) (b : B) → i < length xs → x ≡ get_or xs i y → Pairwise P (take i xs) row → P x b → new ≡ row ++ b ∷ [] → Pairwise P (take (i + 1) xs) new
  beside_more xs i x y row new b within is before last pushed =
      let longer : take (i + 1) xs ≡ take i xs ++ x ∷ [] = take_more xs i y within ∙ ap (λ v. take i xs ++ v ∷ []) (sym is) in
      subst (λ zs. Pairwise P zs new) (sym longer) (subst (Pairwise P (take i xs ++ x ∷ [])) (sym pushed) (beside_append (take i xs) row (x ∷ []) (b ∷ []) before (last, tt)))

  pub beside_whole : (xs : List A) (i : ℕ) (row : List B) → length xs ≤ i → Pairwise P (take i xs) row → Pairwise P xs row
  beside_whole xs i row past h = subst (λ zs. Pairwise P zs row) (take_all i xs past) h

  pub beside_mapped : {C : Type 0} (f : C → A) (xs : List C) (row : List B) → Pairwise (λ c b. P (f c) b) xs row → Pairwise P (map f xs) row
  beside_mapped f [] [] h = tt
  beside_mapped f [] (b ∷ bs) h = absurd h
  beside_mapped f (x ∷ xs) [] h = absurd h
  beside_mapped f (x ∷ xs) (b ∷ bs) h = (h.0, beside_mapped f xs bs h.1)

  flat_last : {C : Type 0} (f : C → List A) (xs : List C) (x : C) → flat_map f (xs ++ x ∷ []) ≡ flat_map f xs ++ f x
  flat_last f [] x = append-nil (f x)
  flat_last f (y ∷ ys) x = ap (λ zs. f y ++ zs) (flat_last f ys x) ∙ sym (append_assoc (f y) (flat_map f ys) (f x))

  pub beside_flat : {C : Type 0} (f : C → List A) (xs : List C) (i : ℕ) (x y : C) (row more new : List B) → i < length xs → x ≡ get_or xs i y → Pairwise P (flat_map f (take i xs)) row → Pairwise P (f x) more → new ≡ row ++ more
      → Pairwise P (flat_map f (take (i + 1) xs)) new
  beside_flat f xs i x y row more new within is before last pushed =
      let longer : flat_map f (take (i + 1) xs) ≡ flat_map f (take i xs) ++ f x =
      ap (flat_map f) (take_more xs i y within ∙ ap (λ v. take i xs ++ v ∷ []) (sym is)) ∙ flat_last f (take i xs) x in
      subst (λ zs. Pairwise P zs new) (sym longer) (subst (Pairwise P (flat_map f (take i xs) ++ f x)) (sym pushed) (beside_append (flat_map f (take i xs)) row (f x) more before last))

  pub beside_flat_whole : {C : Type 0} (f : C → List A) (xs : List C) (i : ℕ) (row : List B) → length xs ≤ i → Pairwise P (flat_map f (take i xs)) row → Pairwise P (flat_map f xs) row
  beside_flat_whole f xs i row past h = subst (λ zs. Pairwise P (flat_map f zs) row) (take_all i xs past) h
