-- What a filter keeps, and lists in which no number stands twice.
use Rattle.std.proofs.Common.{◌≡◌, ◌≢◌, ◌∙◌, ◌⊎◌, inl, inr, ℕ, zero, suc, ◌<◌, ◌==◌, Bool, true, false, cond, List, [], ◌∷◌, get_or, slice_get, Some, refl, sym, ap, subst, arith}
use Rattle.std.specs.List.{AllPairs, filter}
use Rattle.std.specs.List.Sorted.{IsPermutation}
use Rattle.std.proofs.lemmas.Bool.Decides.{Decides-eqb, nat_tests}
use Rattle.std.proofs.lemmas.List.Kept.{AllPairs-filter}
use Rattle.std.proofs.lemmas.List.Sorted.{Contains-permutation}
use Rattle.std.proofs.lemmas.Map.Keys.{IsDistinct-IsPermutation}
use Rattle.std.proofs.lemmas.Map.Made.{AllPairs-from_IsDistinct, IsDistinct-from_AllPairs}
use Rattle.std.proofs.lemmas.Option.{get_or_from_slice_get, slice_get-get_or, slice_get_within}

-- ---- a filter

module _ {A : Type 0} (p : A → Bool) where
  abbrev pub Held : List A → A → Type 0
  Held xs x = (i : ℕ) × (slice_get xs i ≡ Some x)

  onward : (x y : A) (xs : List A) → Held xs y → Held (x ∷ xs) y
  onward x y xs h = (suc h.0, h.1)

  head_held : (b : Bool) (x y : A) (xs ys : List A) → (Held xs y → (p y ≡ true) × Held ys y) → p x ≡ b → Held (cond b (x ∷ xs) xs) y → (p y ≡ true) × Held (x ∷ ys) y
  head_held true x y xs ys more e h = go h.0 h.1
    where
      go : (i : ℕ) → slice_get (x ∷ xs) i ≡ Some y → (p y ≡ true) × Held (x ∷ ys) y
      go zero at = (let same : x ≡ y = cc in (subst (λ (z : A). p z ≡ true) same e, (zero, at)))
      go (suc i) at = (let t = more (i, at) in (t.0, onward x y ys t.1))
  head_held false x y xs ys more e h = let t = more h in (t.0, onward x y ys t.1)

  -- it passes, and stood there before
  pub kept_held : (xs : List A) (y : A) → Held (filter p xs) y → (p y ≡ true) × Held xs y
  kept_held [] y h = (let there = h.1 in absurd (cc))
  kept_held (x ∷ xs) y h = head_held (p x) x y (filter p xs) xs (λ t. kept_held xs y t) refl h

  behind_kept : (b : Bool) (x y : A) (xs : List A) → Held xs y → Held (cond b (x ∷ xs) xs) y
  behind_kept true x y xs h = onward x y xs h
  behind_kept false x y xs h = h

  pub held_kept : (xs : List A) (y : A) (i : ℕ) → slice_get xs i ≡ Some y → p y ≡ true → Held (filter p xs) y
  held_kept [] y i at e = absurd (cc)
  held_kept (x ∷ xs) y zero at e = first (p x) (let same : x ≡ y = cc in ap p same ∙ e)
    where
      first : (b : Bool) → b ≡ true → Held (cond b (x ∷ filter p xs) (filter p xs)) y
      first true f = (zero, at)
      first false f = absurd (cc)
  held_kept (x ∷ xs) y (suc i) at e = behind_kept (p x) x y (filter p xs) (held_kept xs y i at e)

-- ---- numbers that stand once

abbrev pub Once : List ℕ → Type 0
Once xs = (i j k : ℕ) → slice_get xs i ≡ Some k → slice_get xs j ≡ Some k → i ≡ j

pairs_differ : (xs : List ℕ) → Once xs → AllPairs (λ x y. x ≢ y) xs
pairs_differ xs once i j d lt below same =
    let here = slice_get-get_or xs i d (omega arith) in
    let there = slice_get-get_or xs j d below in
    let one : i ≡ j = once i j (get_or xs j d) (here ∙ ap Some same) there in
    omega arith

order_of : (i j : ℕ) → (i < j) ⊎ (i ≡ j) ⊎ (j < i)
order_of i j = grind arith

once_differ : (xs : List ℕ) → AllPairs (λ x y. x ≢ y) xs → Once xs
once_differ xs differ i j k at also = go (order_of i j)
  where
    apart : (i j : ℕ) → i < j → slice_get xs i ≡ Some k → slice_get xs j ≡ Some k → ⊥
    apart i j lt at also = differ i j k lt (slice_get_within xs j k also) (get_or_from_slice_get xs i k k at ∙ sym (get_or_from_slice_get xs j k k also))

    go : (i < j) ⊎ (i ≡ j) ⊎ (j < i) → i ≡ j
    go (inl lt) = absurd (apart i j lt at also)
    go (inr (inl e)) = e
    go (inr (inr lt)) = absurd (apart j i lt also at)

pub once_kept : (p : ℕ → Bool) (xs : List ℕ) → Once xs → Once (filter p xs)
once_kept p xs once = once_differ (filter p xs) (AllPairs-filter (λ x y. x ≢ y) p xs (pairs_differ xs once))

flipped : (x y : ℕ) → (x == y) ≡ (y == x)
flipped x y = grind (arith, nat_tests)

pub once_moved : (xs ys : List ℕ) → IsPermutation xs ys → Once xs → Once ys
once_moved xs ys moved once =
    once_differ ys
    (AllPairs-from_IsDistinct Decides-eqb ys
    (IsDistinct-IsPermutation (λ x y. x == y) flipped xs ys moved (IsDistinct-from_AllPairs Decides-eqb xs (pairs_differ xs once))))

-- ---- in another order

pub held_moved : (xs ys : List ℕ) (i k : ℕ) → IsPermutation xs ys → slice_get xs i ≡ Some k → (j : ℕ) × (slice_get ys j ≡ Some k)
held_moved xs ys i k moved at =
    let there = Contains-permutation xs ys k moved (i, slice_get_within xs i k at, get_or_from_slice_get xs i k k at) in
    (there.0, slice_get-get_or ys there.0 k there.1 ∙ ap Some there.2)
