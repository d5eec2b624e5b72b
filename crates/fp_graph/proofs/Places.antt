-- Lists by their places.
use Rattle.std.proofs.Common.{◌≡◌, ℕ, zero, suc, ◌+◌, ◌<◌, ◌≤◌, ◌⊎◌, List, [], ◌∷◌, ◌++◌, length, take, drop, reverse, Some, slice_get, refl, ap, ◌∙◌, subst, inl, inr, arith}
use Rattle.std.proofs.lemmas.List.{reverse-append}

pub get_right : {A : Type 0} (xs ys : List A) (y : A) (j k : ℕ) → j ≡ length xs + k → slice_get ys k ≡ Some y → slice_get (xs ++ ys) j ≡ Some y
get_right [] ys y j k s e = let same : k ≡ j = omega arith in subst (λ (i : ℕ). slice_get ys i ≡ Some y) same e
get_right (x ∷ xs) ys y zero k s e = absurd (omega arith)
get_right (x ∷ xs) ys y (suc j) k s e = get_right xs ys y j k (omega arith) e

pub get_joined : {A : Type 0} (xs ys : List A) (y : A) (j : ℕ) → slice_get (xs ++ ys) j ≡ Some y
    → (slice_get xs j ≡ Some y) ⊎ ((k : ℕ) × (j ≡ length xs + k) × (slice_get ys k ≡ Some y))
get_joined [] ys y j e = inr (j, omega arith, e)
get_joined (x ∷ xs) ys y zero e = inl e
get_joined (x ∷ xs) ys y (suc j) e = go (get_joined xs ys y j e)
  where
    go : (slice_get xs j ≡ Some y) ⊎ ((k : ℕ) × (j ≡ length xs + k) × (slice_get ys k ≡ Some y))
        → (slice_get xs j ≡ Some y) ⊎ ((k : ℕ) × (suc j ≡ suc (length xs) + k) × (slice_get ys k ≡ Some y))
    go (inl h) = inl h
    go (inr (k, s, h)) = inr (k, omega arith, h)

pub get_drop : {A : Type 0} (xs : List A) (n k j : ℕ) → j ≡ n + k → slice_get (drop n xs) k ≡ slice_get xs j
get_drop [] zero k j s = refl
get_drop [] (suc n) k j s = refl
get_drop (x ∷ xs) zero k j s = let same : k ≡ j = omega arith in ap (slice_get (x ∷ xs)) same
get_drop (x ∷ xs) (suc n) k zero s = absurd (omega arith)
get_drop (x ∷ xs) (suc n) k (suc j) s = get_drop xs n k j (omega arith)

pub get_take : {A : Type 0} (xs : List A) (n k : ℕ) → k < n → slice_get (take n xs) k ≡ slice_get xs k
get_take [] zero k h = refl
get_take [] (suc n) k h = refl
get_take (x ∷ xs) zero k h = absurd (omega arith)
get_take (x ∷ xs) (suc n) zero h = refl
get_take (x ∷ xs) (suc n) (suc k) h = get_take xs n k (omega arith)

pub take_below : {A : Type 0} (xs : List A) (n k : ℕ) (x : A) → slice_get (take n xs) k ≡ Some x → k < n
take_below [] zero k x e = cc
take_below [] (suc n) k x e = cc
take_below (y ∷ xs) zero k x e = cc
take_below (y ∷ xs) (suc n) zero x e = omega arith
take_below (y ∷ xs) (suc n) (suc k) x e = let h = take_below xs n k x e in omega arith

pub reverse_push : {A : Type 0} (xs : List A) (x : A) → reverse (xs ++ x ∷ []) ≡ x ∷ reverse xs
reverse_push xs x = reverse-append xs (x ∷ [])

pub reverse_push_as : {A : Type 0} (xs ys : List A) (x : A) → ys ≡ xs ++ x ∷ [] → reverse ys ≡ x ∷ reverse xs
reverse_push_as xs ys x e = ap reverse e ∙ reverse_push xs x
