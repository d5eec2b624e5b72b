-- What lists have at an index, and their parts.
use Rattle.std.proofs.Common.{◌≡◌, ℕ, zero, suc, ◌+◌, ◌⊎◌, List, [], ◌∷◌, ◌++◌, take, slice_get, Some, inl, inr, refl, sym, ap}
use Rattle.std.proofs.lemmas.Bool.{cases_eq}
use Rattle.fp_base.proofs.Options.{same_some}
use Rattle.fp_meaning.specs.Names.{Path}

pub text_or_not : (s t : List ℕ) → (s ≡ t) ⊎ (s ≡ t → ⊥)
text_or_not [] [] = inl refl
text_or_not [] (y ∷ t) = inr (λ e. cc)
text_or_not (x ∷ s) [] = inr (λ e. cc)
text_or_not (x ∷ s) (y ∷ t) = elim (cases_eq x y) [
  | inl e ↦ elim (text_or_not s t) [ inl f ↦ inl (λ i. e i ∷ f i) | inr d ↦ inr (λ f. let g : s ≡ t = cc in d g) ]
  | inr d ↦ inr (λ f. let g : x ≡ y = cc in d g)
]

pub both_or_not : (k n : ℕ) (s t : List ℕ) → ((k ≡ n) × (s ≡ t)) ⊎ (k ≡ n → s ≡ t → ⊥)
both_or_not k n s t = elim (cases_eq k n) [
  | inl e ↦ elim (text_or_not s t) [ inl f ↦ inl (e, f) | inr d ↦ inr (λ _ f. d f) ]
  | inr d ↦ inr (λ e _. d e)
]

-- names with one more at their end
pub snoc_more : (p r : Path) (t : List ℕ) → (p ++ t ∷ []) ++ r ≡ p ++ t ∷ r
snoc_more [] r t = refl
snoc_more (x ∷ p) r t = ap (λ (q : Path). x ∷ q) (snoc_more p r t)

pub not_nil : (p : Path) (t : List ℕ) → p ++ t ∷ [] ≡ [] → ⊥
not_nil [] t e = cc
not_nil (x ∷ p) t e = cc

pub snoc_same : (p q : Path) (s t : List ℕ) → p ++ s ∷ [] ≡ q ++ t ∷ [] → (p ≡ q) × (s ≡ t)
snoc_same [] [] s t e = (refl, cc)
snoc_same [] (y ∷ q) s t e = let f : q ++ t ∷ [] ≡ [] = cc in absurd (not_nil q t f)
snoc_same (x ∷ p) [] s t e = let f : p ++ s ∷ [] ≡ [] = cc in absurd (not_nil p s f)
snoc_same (x ∷ p) (y ∷ q) s t e =
    let h : x ≡ y = cc in
    let f : p ++ s ∷ [] ≡ q ++ t ∷ [] = cc in
    let r = snoc_same p q s t f in
    ((λ i. h i ∷ r.0 i), r.1)

pub not_longer : (p : Path) (t : List ℕ) → p ++ t ∷ [] ≡ p → ⊥
not_longer [] t e = cc
not_longer (x ∷ p) t e = let f : p ++ t ∷ [] ≡ p = cc in not_longer p t f

pub nil_parts : (q r : Path) → q ++ r ≡ [] → (q ≡ []) × (r ≡ [])
nil_parts [] r e = (refl, e)
nil_parts (x ∷ q) r e = cc

-- what begins names with one more at their end begins them without it, or is all of them
pub split_last : (q r p : Path) (t : List ℕ) → q ++ r ≡ p ++ t ∷ [] → ((more : Path) × (p ≡ q ++ more)) ⊎ ((r ≡ []) × (q ≡ p ++ t ∷ []))
split_last [] r p t e = inl (p, refl)
split_last (x ∷ q) r [] t e =
    let h : x ≡ t = cc in
    let f : q ++ r ≡ [] = cc in
    let n = nil_parts q r f in
    inr (n.1, (λ i. h i ∷ n.0 i))
split_last (x ∷ q) r (y ∷ p) t e =
    let h : x ≡ y = cc in
    let f : q ++ r ≡ p ++ t ∷ [] = cc in
    elim (split_last q r p t f) [
      | inl m ↦ inl (m.0, (λ i. sym h i ∷ m.1 i))
      | inr m ↦ inr (m.0, (λ i. h i ∷ m.1 i))
    ]

-- what begins names that go on begins the first part, or has the next name too
pub split_more : (q r p : Path) (t : List ℕ) (ts : Path) → q ++ r ≡ p ++ t ∷ ts → ((more : Path) × (p ≡ q ++ more)) ⊎ ((more : Path) × (q ≡ (p ++ t ∷ []) ++ more))
split_more [] r p t ts e = inl (p, refl)
split_more (x ∷ q) r [] t ts e = let h : x ≡ t = cc in inr (q, (λ i. h i ∷ q))
split_more (x ∷ q) r (y ∷ p) t ts e =
    let h : x ≡ y = cc in
    let f : q ++ r ≡ p ++ t ∷ ts = cc in
    elim (split_more q r p t ts f) [
      | inl m ↦ inl (m.0, (λ i. sym h i ∷ m.1 i))
      | inr m ↦ inr (m.0, (λ i. h i ∷ m.1 i))
    ]

-- the parts of a list at one of its elements
pub whole : {A : Type 0} (xs : List A) (i : ℕ) (t : A) → slice_get xs i ≡ Some t → (rest : List A) × (xs ≡ (take i xs ++ t ∷ []) ++ rest)
whole [] i t e = cc
whole (x ∷ xs) zero t e = (xs, (λ j. same_some e j ∷ xs))
whole {A = A} (x ∷ xs) (suc i) t e = let w = whole xs i t e in (w.0, ap (λ (q : List A). x ∷ q) w.1)
