-- Tests of each item at its place, and commands with the parameters that they are of.
use Rattle.std.proofs.Common.{◌≡◌, ℕ, zero, suc, ◌+◌, ◌<◌, Bool, true, false, ◌&&◌, ◌||◌, List, [], ◌∷◌, length, drop, Option, Some, None, eqb, refl, ap, ap₂, ◌∙◌, arith}
use Rattle.std.specs.List.{list_any, filter_map, cons_option}
use Rattle.std.specs.Ordering.{nat_cmp}
use Rattle.std.specs.BTreeSet.{BTreeSet, IsFromIterResult, contains}
use Rattle.fp_tables.specs.Lists.{all_from, some_and}
use Rattle.fp_tables.specs.Names.{numbers_differ}
use Rattle.fp_tables.specs.Components.{are_one_each}
use Rattle.fp_tables.specs.declared.component.Command.{Command}
use Rattle.fp_tables.specs.declared.component.Param.{Param}
use Rattle.fp_sound_model.proofs.Joining.{same_member}

module _ {X : Type 0} (test : ℕ → Bool) where
  at_drop : (k n : ℕ) (xs : List X) → n < length xs → all_from (λ i (_ : X). test i) k (drop n xs) ≡ (test k && all_from (λ i (_ : X). test i) (suc k) (drop (suc n) xs))
  at_drop k n [] lt = absurd (omega arith)
  at_drop k zero (x ∷ xs) lt = refl
  at_drop k (suc n) (x ∷ xs) lt = at_drop k n xs (omega arith)

  pub at_place : (n : ℕ) (xs : List X) → n < length xs → all_from (λ i (_ : X). test i) n (drop n xs) ≡ (test n && all_from (λ i (_ : X). test i) (n + 1) (drop (n + 1) xs))
  at_place n xs lt =
      let one : suc n ≡ n + 1 = omega arith in
      at_drop n n xs lt ∙ ap (λ m. test n && all_from (λ i (_ : X). test i) m (drop m xs)) one

  pub holds_here : (n : ℕ) (xs : List X) → n < length xs → test n ≡ true → all_from (λ i (_ : X). test i) n (drop n xs) ≡ all_from (λ i (_ : X). test i) (n + 1) (drop (n + 1) xs)
  holds_here n xs lt h = at_place n xs lt ∙ ap (λ b. b && all_from (λ i (_ : X). test i) (n + 1) (drop (n + 1) xs)) h

  pub fails_here : (n : ℕ) (xs : List X) → n < length xs → test n ≡ false → all_from (λ i (_ : X). test i) n (drop n xs) ≡ false
  fails_here n xs lt h = at_place n xs lt ∙ ap (λ b. b && all_from (λ i (_ : X). test i) (n + 1) (drop (n + 1) xs)) h

all_from_same : {X : Type 0} (f g : ℕ → Bool) → ((i : ℕ) → f i ≡ g i) → (n : ℕ) (xs : List X) → all_from (λ i (_ : X). f i) n xs ≡ all_from (λ i (_ : X). g i) n xs
all_from_same f g same n [] = refl
all_from_same f g same n (x ∷ xs) = ap₂ (λ (a b : Bool). a && b) (same n) (all_from_same f g same (suc n) xs)

pub each_among : (numbers : List ℕ) (set : BTreeSet ℕ) → IsFromIterResult nat_cmp numbers set → (params : List Param) →
    all_from (λ i (_ : Param). contains nat_cmp set i) 0 params ≡ all_from (λ i (_ : Param). list_any (λ n. eqb n i) numbers) 0 params
each_among numbers set made params = all_from_same (λ i. contains nat_cmp set i) (λ i. list_any (λ n. eqb n i) numbers) (λ i. made.0 i ∙ same_member i numbers) 0 params

any_mapped : {X Y : Type 0} (f : X → Option Y) (test : Y → Bool) (xs : List X) → list_any test (filter_map f xs) ≡ list_any (λ x. some_and test (f x)) xs
any_mapped f test [] = refl
any_mapped f test (x ∷ xs) = go (f x) (any_mapped f test xs)
  where
    go : (o : Option _) → list_any test (filter_map f xs) ≡ list_any (λ x. some_and test (f x)) xs →
        list_any test (cons_option o (filter_map f xs)) ≡ (some_and test o || list_any (λ x. some_and test (f x)) xs)
    go None e = e
    go (Some y) e = ap (λ b. test y || b) e

each_commanded : (parameter : Command → Option ℕ) (commands : List Command) (params : List Param) →
    all_from (λ i (_ : Param). list_any (λ n. eqb n i) (filter_map parameter commands)) 0 params
    ≡ all_from (λ i (_ : Param). list_any (λ c. some_and (λ n. eqb n i) (parameter c)) commands) 0 params
each_commanded parameter commands params =
    all_from_same (λ i. list_any (λ n. eqb n i) (filter_map parameter commands)) (λ i. list_any (λ c. some_and (λ n. eqb n i) (parameter c)) commands)
    (λ i. any_mapped parameter (λ n. eqb n i) commands) 0 params

pub one_each : (parameter : Command → Option ℕ) (commands : List Command) (params taken : List Param) (numbers : List ℕ) →
    numbers ≡ filter_map parameter commands → taken ≡ params →
    (all_from (λ i (_ : Param). list_any (λ n. eqb n i) numbers) 0 taken && numbers_differ numbers) ≡ are_one_each parameter commands params
one_each parameter commands params taken numbers e f =
    ap₂ (λ (ns : List ℕ) (ps : List Param). all_from (λ i (_ : Param). list_any (λ n. eqb n i) ns) 0 ps && numbers_differ ns) e f
    ∙ ap (λ b. b && numbers_differ (filter_map parameter commands)) (each_commanded parameter commands params)
