-- That `NoLater` is a total order of places and rows, and that `no_later` tells it.
use Rattle.std.proofs.Common.{◌≡◌, ℕ, ◌<◌, ◌≤◌, ◌⊎◌, Bool, true, false, cond, arith, refl, inl, inr}
use Rattle.std.specs.Prelude.{nat_eq, nat_lt, nat_le}
use Rattle.std.proofs.lemmas.Bool.Decides.{nat_tests}
use Rattle.fp_base.specs.Rules.{row}
use Rattle.fp_base.proofs.Numbers.{at_most}
use Rattle.fp_base.specs.declared.refusal.Refusal.{Refusal}
use Rattle.fp_base.specs.Least.{NoLater, no_later}

-- one step of the order: by a number, and where these are equal by what follows
abbrev Then : ℕ → ℕ → Type 0 → Type 0
Then m n rest = (m < n) ⊎ ((m ≡ n) × rest)

then_same : (m : ℕ) (P : Type 0) → P → Then m m P
then_same m P p = inr (refl, p)

then_through : (a b c : ℕ) (P Q R : Type 0) → (P → Q → R) → Then a b P → Then b c Q → Then a c R
then_through a b c P Q R t (inl p) (inl q) = inl (omega arith)
then_through a b c P Q R t (inl p) (inr q) = let e = q.0 in inl (omega arith)
then_through a b c P Q R t (inr p) (inl q) = let e = p.0 in inl (omega arith)
then_through a b c P Q R t (inr p) (inr q) = let e = p.0 in let d = q.0 in inr (omega arith, t p.1 q.1)

pub no_later_same : (f : Refusal) → NoLater f f
no_later_same f = then_same _ _ (then_same _ _ (then_same _ _ (omega arith)))

rows_through : (a b c : ℕ) → a ≤ b → b ≤ c → a ≤ c
rows_through a b c p q = omega arith

pub no_later_through : (f g h : Refusal) → NoLater f g → NoLater g h → NoLater f h
no_later_through f g h =
    then_through f.place.file g.place.file h.place.file _ _ _
    (then_through f.place.line g.place.line h.place.line _ _ _
    (then_through f.place.column g.place.column h.place.column _ _ _ (rows_through (row f.rule) (row g.rule) (row h.rule))))

-- the tests
abbrev then_test : ℕ → ℕ → Bool → Bool
then_test m n rest = cond (nat_eq m n) rest (nat_lt m n)

equal_or_not : (m n : ℕ) → ((m ≡ n) × (nat_eq m n ≡ true)) ⊎ ((m ≡ n → ⊥) × (nat_eq m n ≡ false))
equal_or_not m n = go (nat_eq m n) refl
  where
    go : (b : Bool) → nat_eq m n ≡ b → ((m ≡ n) × (nat_eq m n ≡ true)) ⊎ ((m ≡ n → ⊥) × (nat_eq m n ≡ false))
    go true e = inl (grind (arith, nat_tests), e)
    go false e = inr (λ d. grind (arith, nat_tests), e)

then_true : (m n : ℕ) (b : Bool) (P : Type 0) → (b ≡ true → P) → then_test m n b ≡ true → Then m n P
then_true m n b P told e = elim (equal_or_not m n) [
  | inl h ↦ inr (h.0, told (rw h.1 at e))
  | inr h ↦ let l : nat_lt m n ≡ true = rw h.1 at e in inl (grind (arith, nat_tests))
]

then_false : (m n : ℕ) (b : Bool) (P : Type 0) → (b ≡ false → P) → then_test m n b ≡ false → Then n m P
then_false m n b P told e = elim (equal_or_not m n) [
  | inl h ↦ let d = h.0 in inr (omega arith, told (rw h.1 at e))
  | inr h ↦ let l : nat_lt m n ≡ false = rw h.1 at e in let d = h.0 in inl (grind (arith, nat_tests))
]

rows_false : (m n : ℕ) → nat_le m n ≡ false → n ≤ m
rows_false m n e = grind (arith, nat_tests)

pub no_later_true : (f g : Refusal) → no_later f g ≡ true → NoLater f g
no_later_true f g =
    then_true f.place.file g.place.file _ _
    (then_true f.place.line g.place.line _ _ (then_true f.place.column g.place.column _ _ (at_most (row f.rule) (row g.rule))))

pub no_later_false : (f g : Refusal) → no_later f g ≡ false → NoLater g f
no_later_false f g =
    then_false f.place.file g.place.file _ _
    (then_false f.place.line g.place.line _ _ (then_false f.place.column g.place.column _ _ (rows_false (row f.rule) (row g.rule))))
