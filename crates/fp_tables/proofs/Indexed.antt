-- What stands in a list of numbers, tests by place, and that no two are equal.
use Rattle.std.proofs.Common.{◌≡◌, ◌∙◌, ℕ, zero, suc, ◌+◌, ◌<◌, Bool, true, false, cond, not, ◌==◌, List, [], ◌∷◌, map, Option, Some, None, option_map, is_some, slice_get, refl, sym, ap, subst, arith}
use Rattle.std.specs.List.{list_any, position}
use Rattle.fp_base.proofs.Bools.{both, join, or_left, or_right}
use Rattle.fp_base.proofs.Numbers.{number_itself, same_number}
use Rattle.fp_base.proofs.Options.{same_some}
use Rattle.fp_base.proofs.Passing.{none_mapped}
use Rattle.fp_tables.specs.Lists.{all_from, apart, is_in}
use Rattle.fp_tables.proofs.Firsts.{position_cons, placed_somewhere}

pub item_in : (xs : List ℕ) (k n : ℕ) → slice_get xs k ≡ Some n → is_in n xs ≡ true
item_in [] k n e = absurd (cc)
item_in (x ∷ xs) zero n e = or_left (x == n) (is_in n xs) (ap (λ (m : ℕ). m == n) (same_some e) ∙ number_itself n)
item_in (x ∷ xs) (suc k) n e = or_right (x == n) (is_in n xs) (item_in xs k n e)

-- what is in the list has a place
pub has_place : (xs : List ℕ) (i : ℕ) → is_in i xs ≡ true → position (λ m. m == i) xs ≡ None → ⊥
has_place xs i h none = go (position (λ (m : ℕ). m == i) xs) none (placed_somewhere (λ (m : ℕ). m == i) xs ∙ h)
  where
    go : (o : Option ℕ) → o ≡ None → is_some o ≡ true → ⊥
    go None e there = cc
    go (Some k) e there = cc

-- and stands there
pub place_holds : (xs : List ℕ) (i k : ℕ) → position (λ m. m == i) xs ≡ Some k → slice_get xs k ≡ Some i
place_holds [] i k h = absurd (cc)
place_holds (x ∷ xs) i k h = go (x == i) refl (position (λ m. m == i) xs) (λ j is. place_holds xs i j is) (sym (position_cons (λ (m : ℕ). m == i) x xs) ∙ h)
  where
    go : (b : Bool) → (x == i) ≡ b → (o : Option ℕ) → ((j : ℕ) → o ≡ Some j → slice_get xs j ≡ Some i) → cond b (Some 0) (option_map suc o) ≡ Some k → slice_get (x ∷ xs) k ≡ Some i
    go true e o rest h = subst (λ (n : ℕ). slice_get (x ∷ xs) n ≡ Some i) (same_some h) (ap Some (same_number x i e))
    go false e None rest h = absurd (cc)
    go false e (Some j) rest h = subst (λ (n : ℕ). slice_get (x ∷ xs) n ≡ Some i) (same_some h) (rest j refl)

-- ---- tests by place

pub all_from_at : {A : Type 0} (p : ℕ → A → Bool) (n : ℕ) (xs : List A) (k : ℕ) (x : A) → all_from p n xs ≡ true → slice_get xs k ≡ Some x → p (n + k) x ≡ true
all_from_at p n [] k x h e = absurd (cc)
all_from_at p n (y ∷ xs) zero x h e =
    let same : y ≡ x = cc in
    let here : n ≡ n + 0 = omega arith in
    subst (λ m. p m x ≡ true) here (ap (p n) (sym same) ∙ (both (p n y) (all_from p (suc n) xs) h).0)
all_from_at p n (y ∷ xs) (suc k) x h e =
    let here : suc n + k ≡ n + suc k = omega arith in
    subst (λ m. p m x ≡ true) here (all_from_at p (suc n) xs k x (both (p n y) (all_from p (suc n) xs) h).1 e)

pub all_from_any : {A : Type 0} (p : ℕ → A → Bool) (n : ℕ) (xs : List A) → ((k : ℕ) (x : A) → p k x ≡ true) → all_from p n xs ≡ true
all_from_any p n [] h = refl
all_from_any p n (x ∷ xs) h = join (p n x) (all_from p (suc n) xs) (h n x) (all_from_any p (suc n) xs h)

-- ---- no two are equal

-- the test holds of no two at different places
pub mapped_apart : {A B : Type 0} (test : B → B → Bool) (f : A → B) (xs : List A)
    → ((j k : ℕ) (x y : A) → j < k → slice_get xs j ≡ Some x → slice_get xs k ≡ Some y → test (f x) (f y) ≡ true → ⊥) → apart test (map f xs) ≡ true
mapped_apart test f [] h = refl
mapped_apart test f (x ∷ xs) h =
    join (not (list_any (test (f x)) (map f xs))) (apart test (map f xs))
    (none_mapped (test (f x)) f xs (λ k y e same. h zero (suc k) x y (omega arith) refl e same))
    (mapped_apart test f xs (λ j k y z low d e same. h (suc j) (suc k) y z (omega arith) d e same))
