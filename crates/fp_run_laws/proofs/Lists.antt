-- What holds of all items of a list.
use Rattle.std.proofs.Common.{◌≡◌, ℕ, Bool, true, false, cond, ◌||◌, ◌==◌, List, [], ◌∷◌, ◌++◌, Option, Some, None, option_map, is_some, unwrap_or, find, refl, sym, ap, ◌∙◌, arith}
use Rattle.std.specs.List.{list_all}
use Rattle.std.proofs.lemmas.Bool.Decides.{nat_tests}
use Rattle.fp_base.proofs.Bools.{both, join}
use Rattle.fp_tables.specs.Lists.{some_and, is_in}

-- what holds of each item at its place holds of all
pub all_of_each : {X : Type 0} (p : X → Bool) (xs : List X) → ((before rest : List X) (x : X) → xs ≡ before ++ x ∷ rest → p x ≡ true) → list_all p xs ≡ true
all_of_each p [] h = refl
all_of_each {X} p (x ∷ xs) h =
    join (p x) (list_all p xs) (h [] xs x refl)
    (all_of_each p xs (λ before rest y is. h (x ∷ before) rest y (ap (λ (l : List X). x ∷ l) is)))

pub find_passes : {X : Type 0} (p q : X → Bool) (xs : List X) (x : X) → list_all q xs ≡ true → find p xs ≡ Some x → (p x ≡ true) × (q x ≡ true)
find_passes p q [] x h e = absurd (cc)
find_passes {X} p q (y ∷ xs) x h e = go (p y) refl e (λ found. find_passes p q xs x (both (q y) (list_all q xs) h).1 found)
  where
    go : (b : Bool) → p y ≡ b → cond b (Some y) (find p xs) ≡ Some x → (find p xs ≡ Some x → (p x ≡ true) × (q x ≡ true)) → (p x ≡ true) × (q x ≡ true)
    go true is found rest = let s : y ≡ x = cc in (ap p (sym s) ∙ is, ap q (sym s) ∙ (both (q y) (list_all q xs) h).0)
    go false is found rest = rest found

pub all_in : (p : ℕ → Bool) (k : ℕ) (xs : List ℕ) → list_all p xs ≡ true → is_in k xs ≡ true → p k ≡ true
all_in p k [] h e = absurd (cc)
all_in p k (x ∷ xs) h e = go (x == k) refl e (λ found. all_in p k xs (both (p x) (list_all p xs) h).1 found)
  where
    go : (b : Bool) → (x == k) ≡ b → (b || is_in k xs) ≡ true → (is_in k xs ≡ true → p k ≡ true) → p k ≡ true
    go true is found rest = let s : k ≡ x = grind (arith, nat_tests) in ap p s ∙ (both (p x) (list_all p xs) h).0
    go false is found rest = rest found

-- a test of what there is
pub mapped_test : {X : Type 0} (p : X → Bool) (o : Option X) → unwrap_or (option_map p o) false ≡ some_and p o
mapped_test p None = refl
mapped_test p (Some x) = refl

pub some_mapped : {X Y : Type 0} (f : X → Y) (o : Option X) → is_some (option_map f o) ≡ is_some o
some_mapped f None = refl
some_mapped f (Some x) = refl
