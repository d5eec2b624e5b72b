-- A test of a numbering, and the numberings of the worked connections.
use Rattle.std.proofs.Common.{◌≡◌, ap, refl, sym, subst, ℕ, zero, suc, ◌+◌, ◌<◌, Bool, true, false, not, ◌&&◌, List, [], ◌∷◌, length, Option, None, Some, slice_get, arith, inl, inr}
use Rattle.std.specs.Prelude.{nat_lt, ◌==◌}
use Rattle.std.proofs.lemmas.Bool.Decides.{nat_tests}
use Rattle.fp_base.specs.Same.{same_option}
use Rattle.fp_base.proofs.Bools.{not_true}
use Rattle.fp_base.proofs.Options.{same_some}
use Rattle.fp_numbering.specs.Ends.{number_below}
use Rattle.fp_numbering.specs.declared.tips.Tip.{Tip}
use Rattle.fp_numbering.specs.Pairs.{has, pairs, pair_of, is_whole, given, is_unwritten, first_of}
use Rattle.fp_numbering.specs.Numbers.{IsLeastOutside, Source, source_of, used_by_pair, used_by_output, Has, Numbered}
use Rattle.fp_numbering.specs.Numbers.Source.{Said, Paired, Unpaired, Output, Input}
use Rattle.fp_base.specs.declared.rule.Rule.TheVariants.{MatchPairMissing, NoNumberFree}
use Rattle.fp_base.specs.Least.{broken_at}
use Rattle.fp_numbering.specs.Broken.{Breaks}
use Rattle.fp_numbering.specs.Rows.{column, written, tip, no_matches, hub, chain, fan, fan_of_four, there_and_back, there, beside_others, chained}
use Rattle.fp_numbering.proofs.Unique.{both_left, both_right}

abbrev all_below : ℕ → (ℕ → Bool) → Bool
all_below zero test = true
all_below (suc n) test = test n && all_below n test

abbrev is_least_outside : ℕ → List ℕ → Option ℕ → Bool
is_least_outside size used (Some n) = nat_lt n size && (not (has used n) && all_below n (has used))
is_least_outside size used None = all_below size (has used)

same : Option ℕ → Option ℕ → Bool
same a b = same_option (λ j k. j == k) a b

abbrev test_of : (ℕ → List (ℕ × ℕ)) → List Tip → List (Option ℕ) → Tip → ℕ → Option ℕ → Source → Bool
test_of matches ts ns t k n (Said z) = same_option (λ i j. i == j) n (number_below t.size z)
test_of matches ts ns t k n (Paired g) = is_least_outside t.size (used_by_pair matches ts ns g) n
test_of matches ts ns t k n Unpaired = same_option (λ i j. i == j) n None
test_of matches ts ns t k n Output = is_least_outside t.size (used_by_output matches ts ns t k) n
test_of matches ts ns t k n Input = same_option (λ i j. i == j) n (Some 0)

abbrev tests_from : (ℕ → List (ℕ × ℕ)) → List Tip → List (Option ℕ) → ℕ → List Tip → List (Option ℕ) → Bool
tests_from matches ts ns k [] [] = true
tests_from matches ts ns k (u ∷ us) (m ∷ ms) = test_of matches ts ns u k m (source_of matches ts u k) && tests_from matches ts ns (suc k) us ms
tests_from matches ts ns k us ms = false

below : (n : ℕ) (test : ℕ → Bool) → all_below n test ≡ true → (k : ℕ) → k < n → test k ≡ true
below zero test h k l = absurd (omega arith)
below (suc n) test h k l = at_or_below (both_left (test n) (all_below n test) h) (below n test (both_right (test n) (all_below n test) h)) (k == n) refl
  where
    at_or_below : test n ≡ true → ((j : ℕ) → j < n → test j ≡ true) → (b : Bool) → (k == n) ≡ b → test k ≡ true
    at_or_below here others true e = let is : k ≡ n = grind (arith, nat_tests) in subst (λ (j : ℕ). test j ≡ true) (sym is) here
    at_or_below here others false e = let ne : k ≡ n → ⊥ = grind (arith, nat_tests) in others k (omega (arith, ne))

from_less : (m n : ℕ) → nat_lt m n ≡ true → m < n
from_less m n e = grind (arith, nat_tests)

least_from : (size : ℕ) (used : List ℕ) (n : Option ℕ) → is_least_outside size used n ≡ true → IsLeastOutside size used n
least_from size used None h = below size (has used) h
least_from size used (Some n) h =
    let rest = both_right _ _ h in
    (from_less n size (both_left _ _ h), not_true _ (both_left _ _ rest), below n (has used) (both_right _ _ rest))

same_from : (a b : Option ℕ) → same_option (λ i j. i == j) a b ≡ true → a ≡ b
same_from None None h = refl
same_from None (Some b) h = cc
same_from (Some a) None h = cc
same_from (Some a) (Some b) h = let e : a ≡ b = grind (arith, nat_tests) in ap (λ (k : ℕ). Some k) e

has_from : (matches : ℕ → List (ℕ × ℕ)) (ts : List Tip) (ns : List (Option ℕ)) (t : Tip) (k : ℕ) (n : Option ℕ) (s : Source) → test_of matches ts ns t k n s ≡ true → Has matches ts ns t k n s
has_from matches ts ns t k n (Said z) h = same_from _ _ h
has_from matches ts ns t k n (Paired g) h = least_from _ _ _ h
has_from matches ts ns t k n Unpaired h = same_from _ _ h
has_from matches ts ns t k n Output h = least_from _ _ _ h
has_from matches ts ns t k n Input h = same_from _ _ h

lengths : (matches : ℕ → List (ℕ × ℕ)) (ts : List Tip) (ns : List (Option ℕ)) (k : ℕ) (us : List Tip) (ms : List (Option ℕ)) → tests_from matches ts ns k us ms ≡ true → length ms ≡ length us
lengths matches ts ns k [] [] h = refl
lengths matches ts ns k [] (m ∷ ms) h = cc
lengths matches ts ns k (u ∷ us) [] h = cc
lengths matches ts ns k (u ∷ us) (m ∷ ms) h = let rest : length ms ≡ length us = lengths matches ts ns (suc k) us ms (both_right (test_of matches ts ns u k m (source_of matches ts u k)) (tests_from matches ts ns (suc k) us ms) h) in omega arith

each : (matches : ℕ → List (ℕ × ℕ)) (ts : List Tip) (ns : List (Option ℕ)) (k : ℕ) (us : List Tip) (ms : List (Option ℕ)) → tests_from matches ts ns k us ms ≡ true
    → (i j : ℕ) (t : Tip) (n : Option ℕ) → i ≡ k + j → slice_get us j ≡ Some t → slice_get ms j ≡ Some n → Has matches ts ns t i n (source_of matches ts t i)
each matches ts ns k [] ms h i j t n is at there = cc
each matches ts ns k (u ∷ us) [] h i j t n is at there = cc
each matches ts ns k (u ∷ us) (m ∷ ms) h i zero t n is at there =
    let eq : k ≡ i = omega arith in
    let has_it = has_from matches ts ns u k m (source_of matches ts u k) (both_left _ _ h) in
    subst (λ (x : Option ℕ). Has matches ts ns t i x (source_of matches ts t i)) (same_some there)
    (subst (λ (x : Tip). Has matches ts ns x i m (source_of matches ts x i)) (same_some at) (subst (λ (x : ℕ). Has matches ts ns u x m (source_of matches ts u x)) eq has_it))
each matches ts ns k (u ∷ us) (m ∷ ms) h i (suc j) t n is at there = each matches ts ns (suc k) us ms (both_right _ _ h) i j t n (omega arith) at there

pub numbered_from : (matches : ℕ → List (ℕ × ℕ)) (ts : List Tip) (ns : List (Option ℕ)) → tests_from matches ts ns 0 ts ns ≡ true → Numbered matches ts ns
numbered_from matches ts ns h = record { each = lengths matches ts ns 0 ts ns h; has = λ k t n at there. each matches ts ns 0 ts ns h k k t n (omega arith) at there }

pub of_fan : Numbered no_matches fan (Some 0 ∷ Some 0 ∷ Some 1 ∷ Some 1 ∷ Some 2 ∷ Some 0 ∷ [])
unfolding pairs pair_of is_whole given is_unwritten first_of
of_fan = numbered_from _ _ _ refl

pub of_fan_of_four : Numbered no_matches fan_of_four (Some 0 ∷ Some 0 ∷ Some 1 ∷ Some 1 ∷ Some 2 ∷ Some 0 ∷ None ∷ Some 0 ∷ [])
unfolding pairs pair_of is_whole given is_unwritten first_of
of_fan_of_four = numbered_from _ _ _ refl

pub of_there_and_back : Numbered hub there_and_back (Some 2 ∷ Some 0 ∷ Some 0 ∷ Some 2 ∷ [])
unfolding pairs pair_of is_whole given is_unwritten first_of
of_there_and_back = numbered_from _ _ _ refl

pub of_there : Numbered hub there (Some 2 ∷ Some 0 ∷ [])
unfolding pairs pair_of is_whole given is_unwritten first_of
of_there = numbered_from _ _ _ refl

pub of_beside_others : Numbered hub beside_others (Some 0 ∷ Some 0 ∷ Some 2 ∷ Some 0 ∷ Some 0 ∷ Some 2 ∷ Some 0 ∷ Some 1 ∷ [])
unfolding pairs pair_of is_whole given is_unwritten first_of
of_beside_others = numbered_from _ _ _ refl

pub of_chained : Numbered chain chained (Some 3 ∷ Some 0 ∷ Some 0 ∷ Some 3 ∷ Some 1 ∷ Some 3 ∷ [])
unfolding pairs pair_of is_whole given is_unwritten first_of
of_chained = numbered_from _ _ _ refl

-- ---- what is broken

pub alone_there : Breaks hub there (broken_at MatchPairMissing (column 1))
alone_there = (0, tip true 0 0 4 1 (written 2) false 1, refl, inr (inr (inl ((0, 1), (0, omega arith, refl), refl, refl, inr refl, refl))))

pub none_for_the_fourth : Breaks no_matches fan_of_four (broken_at NoNumberFree (column 61))
unfolding pairs pair_of is_whole given is_unwritten first_of
none_for_the_fourth = (
  6,
  tip true 0 0 3 1 None false 61,
  refl,
  inr (inr (inr (inr (inr (Some 0 ∷ Some 0 ∷ Some 1 ∷ Some 1 ∷ Some 2 ∷ Some 0 ∷ None ∷ Some 0 ∷ [], of_fan_of_four, refl, tt, refl))))),
)
