-- Elements of a list by their places, where one is replaced or added.
use Rattle.std.proofs.Common.{◌≡◌, ◌≢◌, ℕ, zero, suc, ◌+◌, ◌<◌, ◌≤◌, ◌⊎◌, List, [], ◌∷◌, ◌++◌, length, set, Some, slice_get, refl, sym, inl, inr, arith}

pub get_set_same : {A : Type 0} (xs : List A) (i : ℕ) (v : A) → i < length xs → slice_get (set xs i v) i ≡ Some v
get_set_same [] i v h = absurd (omega arith)
get_set_same (x ∷ xs) zero v h = refl
get_set_same (x ∷ xs) (suc i) v h = get_set_same xs i v (omega arith)

pub get_set_other : {A : Type 0} (xs : List A) (i j : ℕ) (v : A) → j ≢ i → slice_get (set xs i v) j ≡ slice_get xs j
get_set_other [] i j v h = refl
get_set_other (x ∷ xs) zero zero v h = absurd (h refl)
get_set_other (x ∷ xs) zero (suc j) v h = refl
get_set_other (x ∷ xs) (suc i) zero v h = refl
get_set_other (x ∷ xs) (suc i) (suc j) v h = get_set_other xs i j v (omega arith)

pub same_or_other : (i j : ℕ) → (i ≡ j) ⊎ (i ≢ j)
same_or_other i j = grind arith

pub before_or_not : (i j : ℕ) → (i < j) ⊎ (j ≤ i)
before_or_not i j = grind arith

pub item_below : {A : Type 0} (xs : List A) (i : ℕ) → i < length xs → (x : A) × (slice_get xs i ≡ Some x)
item_below [] i h = absurd (omega arith)
item_below (x ∷ xs) zero h = (x, refl)
item_below (x ∷ xs) (suc i) h = item_below xs i (omega arith)

pub item_beside : {A B : Type 0} (xs : List A) (ys : List B) → length ys ≡ length xs → (k : ℕ) (y : B) → slice_get ys k ≡ Some y → (x : A) × (slice_get xs k ≡ Some x)
item_beside [] [] same k y e = absurd (cc)
item_beside [] (z ∷ ys) same k y e = absurd (omega arith)
item_beside (x ∷ xs) [] same k y e = absurd (cc)
item_beside (x ∷ xs) (z ∷ ys) same zero y e = (x, refl)
item_beside (x ∷ xs) (z ∷ ys) same (suc k) y e = item_beside xs ys (omega arith) k y e

pub get_push : {A : Type 0} (xs : List A) (x y : A) (k : ℕ) → slice_get (xs ++ x ∷ []) k ≡ Some y → (slice_get xs k ≡ Some y) ⊎ ((k ≡ length xs) × (x ≡ y))
get_push [] x y zero e = inr (refl, cc)
get_push [] x y (suc k) e = cc
get_push (z ∷ xs) x y zero e = inl e
get_push (z ∷ xs) x y (suc k) e = go (get_push xs x y k e)
  where
    go : (slice_get xs k ≡ Some y) ⊎ ((k ≡ length xs) × (x ≡ y)) → (slice_get xs k ≡ Some y) ⊎ ((suc k ≡ suc (length xs)) × (x ≡ y))
    go (inl h) = inl h
    go (inr t) = inr (omega arith, t.1)

pub below_or_at : (k n : ℕ) → k < n + 1 → (k < n) ⊎ (k ≡ n)
below_or_at k n h = grind arith

pub push_cases : {A : Type 0} (xs : List A) (x : A) (k : ℕ) (y : A) → slice_get (xs ++ x ∷ []) k ≡ Some y → (slice_get xs k ≡ Some y) ⊎ ((k ≡ length xs) × (y ≡ x))
push_cases xs x k y e = elim (get_push xs x y k e) [ inl h ↦ inl h | inr t ↦ inr (t.0, sym t.1) ]
