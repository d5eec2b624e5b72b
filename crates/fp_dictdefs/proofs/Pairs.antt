-- Whole numbers as pairs: each has one, and pairs are told apart.
use Rattle.std.proofs.Common.{◌≡◌, ℕ, ◌+◌, ◌-◌, ◌^◌, ◌<◌, ◌≤◌, ◌⊎◌, inl, inr, ℤ, pos, ◌+ℤ◌, ◌≤ℤ◌, ◌<ℤ◌, Bool, true, false, List, [], Ordering, Less, Equal, Greater, nat_cmp, is_eq, refl, sym, ap, subst, ◌∙◌, arith}
use Rattle.std.specs.BTreeMap.{is_at}
use Rattle.std.specs.BTreeSet.{BTreeSet, contains}
use Rattle.std.specs.List.{list_any}
use Rattle.std.specs.Prelude.{int_le}
use Rattle.std.specs.Ordering.{MatchOrdering, int_cmp}
use Rattle.std.proofs.lemmas.Bool.Decides.{nat_tests}
use Rattle.std.proofs.lemmas.Cmp.{int_ranked, ranked, int_cmp_total, nat_cmp_total, tied_itself}
use Rattle.std.proofs.lemmas.Int.{ints}
use Rattle.std.proofs.lemmas.Bool.{and_right}
use Rattle.fp_base.proofs.Bools.{both, join}
use Rattle.fp_base.proofs.Comparing.{both_equal}
use Rattle.fp_dictdefs.specs.Broken.{is_within}
use Rattle.fp_dictdefs.specs.Tested.{Long, StandsFor, greatest, is_of_32_bits, long_cmp}

pub same_pair : (a b : ℤ) (m n : ℕ) → a ≡ b → m ≡ n → ◌≡◌ {A = Long} (a, m) (b, n)
same_pair a b m n e f = subst (λ (c : ℤ). ◌≡◌ {A = Long} (a, m) (c, n)) e (subst (λ (k : ℕ). ◌≡◌ {A = Long} (a, m) (a, k)) f refl)

-- ---- the order

of_equal : (P Q R : Type 0) (o : Ordering) → MatchOrdering o P Q R → is_eq o ≡ true → Q
of_equal P Q R Less h e = absurd cc
of_equal P Q R Equal h e = h
of_equal P Q R Greater h e = absurd cc

pub longs_equal : (p q : Long) → is_eq (long_cmp p q) ≡ true → p ≡ q
longs_equal (a, m) (b, n) e =
    let t = both (is_eq (int_cmp a b)) (is_eq (nat_cmp m n)) (sym (both_equal (int_cmp a b) (nat_cmp m n)) ∙ e) in
    same_pair a b m n (of_equal (a <ℤ b) (a ≡ b) (b <ℤ a) (int_cmp a b) (int_ranked a b (int_cmp a b) refl) t.0) (of_equal (m < n) (m ≡ n) (n < m) (nat_cmp m n) (ranked m n (nat_cmp m n) refl) t.1)

pub long_itself : (p : Long) → is_eq (long_cmp p p) ≡ true
long_itself (a, m) =
    both_equal (int_cmp a a) (nat_cmp m m)
    ∙ join (is_eq (int_cmp a a)) (is_eq (nat_cmp m m)) (ap is_eq (tied_itself int_cmp_total a)) (ap is_eq (tied_itself nat_cmp_total m))

-- ---- numbers

pub one_long : (p q : Long) (n : ℤ) → StandsFor p n → StandsFor q n → p ≡ q
one_long (a, m) (b, k) n (e, l, s) (f, g, r) = go s r
  where
    go : (m ≡ 0) ⊎ (a ≡ greatest) → (k ≡ 0) ⊎ (b ≡ greatest) → ◌≡◌ {A = Long} (a, m) (b, k)
    go (inl x) (inl y) = same_pair a b m k (omega (arith, ints)) (omega (arith, ints))
    go (inl x) (inr y) = same_pair a b m k (omega (arith, ints)) (omega (arith, ints))
    go (inr x) (inl y) = same_pair a b m k (omega (arith, ints)) (omega (arith, ints))
    go (inr x) (inr y) = same_pair a b m k (omega (arith, ints)) (omega (arith, ints))

pub one_number : (p : Long) (m n : ℤ) → StandsFor p m → StandsFor p n → m ≡ n
one_number p m n s t = s.0 ∙ sym t.0

pub stands_short : (n : ℤ) → n ≤ℤ greatest → StandsFor (n, 0) n
stands_short n l = (omega (arith, ints), l, inl refl)

abbrev of_bits : ℤ → Bool
of_bits = is_within (pos 0) (pos (2 ^ 32 - 1))

not_below : (k : ℕ) → 2 ^ 127 - 1 ≤ k → (b : Bool) → int_le (pos k) (pos (2 ^ 32 - 1)) ≡ b → b ≡ false
not_below k h true e = let low : k ≤ 2 ^ 32 - 1 = grind (arith, nat_tests) in absurd (omega (arith, low, h))
not_below k h false e = refl

past : (k : ℕ) → 2 ^ 127 - 1 ≤ k → of_bits (pos k) ≡ false
past k h = and_right (int_le (pos 0) (pos k)) (int_le (pos k) (pos (2 ^ 32 - 1))) (not_below k h (int_le (pos k) (pos (2 ^ 32 - 1))) refl)

pub same_bits : (p : Long) (n : ℤ) → StandsFor p n → is_of_32_bits p ≡ is_within (pos 0) (pos (2 ^ 32 - 1)) n
same_bits (a, m) n (e, l, s) = go s
  where
    go : (m ≡ 0) ⊎ (a ≡ greatest) → of_bits a ≡ of_bits n
    go (inl x) = let same : a ≡ n = omega (arith, ints) in ap of_bits same
    go (inr x) =
        let big : n ≡ pos (2 ^ 127 - 1 + m) = e ∙ ap (λ (z : ℤ). z +ℤ pos m) x in
        ap of_bits x ∙ past (2 ^ 127 - 1) (omega arith) ∙ sym (past (2 ^ 127 - 1 + m) (omega arith)) ∙ ap of_bits (sym big)

pub none_noted : (seen : BTreeSet Long) → seen.keys ≡ [] → (q : Long) → contains long_cmp seen q ≡ false
none_noted seen empty q = ap (λ (ks : List Long). list_any (is_at (long_cmp q)) ks) empty
