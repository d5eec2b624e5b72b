-- What holds of each item of a list at its position.
use Rattle.std.proofs.Common.{◌≡◌, ℕ, zero, suc, ◌+◌, List, [], ◌∷◌, ◌++◌, length, slice_get, Option, Some, None, refl, subst, arith}
use Rattle.fp_base.proofs.Options.{same_some}

-- from this position on
module _ {A : Type 0} (P : ℕ → A → Type 0) where
  abbrev pub EachFrom : ℕ → List A → Type 0
  EachFrom n [] = Unit {0}
  EachFrom n (x ∷ xs) = P n x × EachFrom (n + 1) xs

  pub from_front : (xs ys : List A) (n : ℕ) → EachFrom n (xs ++ ys) → EachFrom n xs
  from_front [] ys n h = tt
  from_front (x ∷ xs) ys n h = (h.0, from_front xs ys (n + 1) h.1)

  pub from_behind : (xs ys : List A) (n m : ℕ) → m ≡ n + length xs → EachFrom n (xs ++ ys) → EachFrom m ys
  from_behind [] ys n m e h = let same : n ≡ m = omega (arith, e) in subst (λ (k : ℕ). EachFrom k ys) same h
  from_behind (x ∷ xs) ys n m e h = let on : m ≡ (n + 1) + length xs = omega (arith, e) in from_behind xs ys (n + 1) m on h.1

  pub from_joined : (xs ys : List A) (n m : ℕ) → m ≡ n + length xs → EachFrom n xs → EachFrom m ys → EachFrom n (xs ++ ys)
  from_joined [] ys n m e h k = let same : m ≡ n = omega (arith, e) in subst (λ (j : ℕ). EachFrom j ys) same k
  from_joined (x ∷ xs) ys n m e h k = let on : m ≡ (n + 1) + length xs = omega (arith, e) in (h.0, from_joined xs ys (n + 1) m on h.1 k)

  pub from_get : (xs : List A) (n k m : ℕ) (x : A) → m ≡ n + k → EachFrom n xs → slice_get xs k ≡ Some x → P m x
  from_get [] n k m x e h at = absurd (cc)
  from_get (y ∷ xs) n zero m x e h at = let same : n ≡ m = omega (arith, e) in subst (λ (z : A). P m z) (same_some at) (subst (λ (j : ℕ). P j y) same h.0)
  from_get (y ∷ xs) n (suc k) m x e h at = let on : m ≡ (n + 1) + k = omega (arith, e) in from_get xs (n + 1) k m x on h.1 at

  pub from_all : (xs : List A) (n : ℕ) → ((k m : ℕ) (x : A) → m ≡ n + k → slice_get xs k ≡ Some x → P m x) → EachFrom n xs
  from_all [] n h = tt
  from_all (x ∷ xs) n h =
      let same : n ≡ n + 0 = omega arith in
      (h 0 n x same refl, from_all xs (n + 1) (λ k m y e at. let on : m ≡ n + suc k = omega (arith, e) in h (suc k) m y on at))
