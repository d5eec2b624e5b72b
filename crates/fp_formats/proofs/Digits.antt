-- A number's digits from those of its front.
use Rattle.std.proofs.Common.{◌≡◌, ℕ, zero, suc, ◌/◌, ◌%◌, ◌^◌, ◌<◌, ◌≤◌, Bool, true, false, cond, ◌==◌, ◌⊎◌, List, [], ◌∷◌, ◌++◌, refl, sym, ◌∙◌, ap, append_assoc, arith, inl, inr}
use Rattle.std.proofs.Math.Nat.{pow-suc}
use Rattle.std.proofs.lemmas.Bool.Decides.{nat_tests}
use Rattle.std.specs.Fmt.{digits, digits_onto, digit_glyph}

module _ (base : ℕ) (shrinks : (n k : ℕ) → n < 8 ^ suc k → n / base < 8 ^ k) where
  onto_append : (k n : ℕ) (acc : List ℕ) → digits_onto k base false n acc ≡ digits_onto k base false n [] ++ acc
  onto_append zero n acc = refl
  onto_append (suc k) n acc = by (onto_append k (n / base) (digit_glyph false (n % base) ∷ acc)) (onto_append k (n / base) (digit_glyph false (n % base) ∷ [])) (n / base == 0)
    where
      by : digits_onto k base false (n / base) (digit_glyph false (n % base) ∷ acc) ≡ digits_onto k base false (n / base) [] ++ (digit_glyph false (n % base) ∷ acc)
          → digits_onto k base false (n / base) (digit_glyph false (n % base) ∷ []) ≡ digits_onto k base false (n / base) [] ++ (digit_glyph false (n % base) ∷ [])
          → (t : Bool) → cond t (digit_glyph false (n % base) ∷ acc) (digits_onto k base false (n / base) (digit_glyph false (n % base) ∷ acc))
          ≡ cond t (digit_glyph false (n % base) ∷ []) (digits_onto k base false (n / base) (digit_glyph false (n % base) ∷ [])) ++ acc
      by e f true = refl
      by e f false =
          let g = append_assoc (digits_onto k base false (n / base) []) (digit_glyph false (n % base) ∷ []) acc in
          e ∙ sym g ∙ ap (λ t. t ++ acc) (sym f)

  zero_front : (n : ℕ) → n / base < 1 → (n / base == 0) ≡ true
  zero_front n h = zero_test (n / base) h
    where
      zero_test : (m : ℕ) → m < 1 → (m == 0) ≡ true
      zero_test m h = grind (arith, nat_tests)

  onto_more : (k n : ℕ) (acc : List ℕ) → n < 8 ^ k → digits_onto (suc k) base false n acc ≡ digits_onto (suc (suc k)) base false n acc
  onto_more zero n acc h =
      let q : n / base < 1 = shrinks n 0 (omega arith) in
      let e = zero_front n q in
      rw e refl
  onto_more (suc k) n acc h = by (onto_more k (n / base) (digit_glyph false (n % base) ∷ acc) (shrinks n k h)) (n / base == 0)
    where
      by : digits_onto (suc k) base false (n / base) (digit_glyph false (n % base) ∷ acc) ≡ digits_onto (suc (suc k)) base false (n / base) (digit_glyph false (n % base) ∷ acc)
          → (t : Bool) → cond t (digit_glyph false (n % base) ∷ acc) (digits_onto (suc k) base false (n / base) (digit_glyph false (n % base) ∷ acc))
          ≡ cond t (digit_glyph false (n % base) ∷ acc) (digits_onto (suc (suc k)) base false (n / base) (digit_glyph false (n % base) ∷ acc))
      by e true = refl
      by e false = e

  last_digit : (k n : ℕ) → n < 8 ^ suc k → (n / base == 0) ≡ false
      → digits_onto (suc (suc k)) base false n [] ≡ digits_onto (suc (suc k)) base false (n / base) [] ++ (digit_glyph false (n % base) ∷ [])
  last_digit k n h e =
      let f = onto_append (suc k) (n / base) (digit_glyph false (n % base) ∷ []) in
      let g = onto_more k (n / base) [] (shrinks n k h) in
      rw e (f ∙ ap (λ t. t ++ (digit_glyph false (n % base) ∷ [])) g)

  pub digits_last : (n : ℕ) → n < 2 ^ 128 → (n / base == 0) ≡ false → digits base false n ≡ digits base false (n / base) ++ (digit_glyph false (n % base) ∷ [])
  unfolding digits
  digits_last n h e = last_digit 62 n (omega arith) e

  pub digits_only : (n : ℕ) → (n / base == 0) ≡ true → digits base false n ≡ digit_glyph false (n % base) ∷ []
  unfolding digits
  digits_only n e = rw e refl

shrinks_8 : (n k : ℕ) → n < 8 ^ suc k → n / 8 < 8 ^ k
shrinks_8 n k h = omega (arith, pow-suc 8 k)

shrinks_16 : (n k : ℕ) → n < 8 ^ suc k → n / 16 < 8 ^ k
shrinks_16 n k h = omega (arith, pow-suc 8 k)

has_front-8 : (n : ℕ) → 8 ≤ n → (n / 8 == 0) ≡ false
has_front-8 n h = let q : 1 ≤ n / 8 = omega arith in not_zero (n / 8) q
  where
    not_zero : (m : ℕ) → 1 ≤ m → (m == 0) ≡ false
    not_zero m h = grind (arith, nat_tests)

has_front-16 : (n : ℕ) → 16 ≤ n → (n / 16 == 0) ≡ false
has_front-16 n h = let q : 1 ≤ n / 16 = omega arith in not_zero (n / 16) q
  where
    not_zero : (m : ℕ) → 1 ≤ m → (m == 0) ≡ false
    not_zero m h = grind (arith, nat_tests)

no_front-8 : (n : ℕ) → n < 8 → (n / 8 == 0) ≡ true
no_front-8 n h = let q : n / 8 < 1 = omega arith in is_zero (n / 8) q
  where
    is_zero : (m : ℕ) → m < 1 → (m == 0) ≡ true
    is_zero m h = grind (arith, nat_tests)

no_front-16 : (n : ℕ) → n < 16 → (n / 16 == 0) ≡ true
no_front-16 n h = let q : n / 16 < 1 = omega arith in is_zero (n / 16) q
  where
    is_zero : (m : ℕ) → m < 1 → (m == 0) ≡ true
    is_zero m h = grind (arith, nat_tests)

pub more_digits : (base n : ℕ) → (base ≡ 8) ⊎ (base ≡ 16) → n < 2 ^ 128 → base ≤ n → digits base false n ≡ digits base false (n / base) ++ (digit_glyph false (n % base) ∷ [])
more_digits base n (inl e) h k = let l : 8 ≤ n = omega arith in rw e (digits_last 8 shrinks_8 n h (has_front-8 n l))
more_digits base n (inr e) h k = let l : 16 ≤ n = omega arith in rw e (digits_last 16 shrinks_16 n h (has_front-16 n l))

pub one_digit : (base n : ℕ) → (base ≡ 8) ⊎ (base ≡ 16) → n < base → digits base false n ≡ digit_glyph false (n % base) ∷ []
one_digit base n (inl e) h = let l : n < 8 = omega arith in rw e (digits_only 8 shrinks_8 n (no_front-8 n l))
one_digit base n (inr e) h = let l : n < 16 = omega arith in rw e (digits_only 16 shrinks_16 n (no_front-16 n l))
