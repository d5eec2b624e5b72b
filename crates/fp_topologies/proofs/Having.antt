-- Which numbers lists have.
use Rattle.std.proofs.Common.{◌≡◌, ℕ, zero, suc, ◌<◌, ◌≤◌, Bool, true, false, not, cond, ◌&&◌, ◌||◌, ◌==◌, List, [], ◌∷◌, ◌++◌, flat_map, Some, slice_get, refl, sym, ap, subst, ◌∙◌}
use Rattle.std.specs.List.{AllByRecursion, filter, list_any}
use Rattle.std.proofs.lemmas.List.Folds.{list_any-append}
use Rattle.fp_base.proofs.Bools.{or_left, or_right}
use Rattle.fp_base.proofs.Options.{same_some}
use Rattle.fp_base.proofs.Numbers.{same_number}
use Rattle.fp_base.proofs.Lists.{each_item}
use Rattle.fp_tables.specs.Lists.{is_in}
use Rattle.fp_tables.proofs.Indexed.{item_in}
use Rattle.fp_topologies.specs.Imports.{first_of_each}

-- what holds of all holds of each that they have
pub of_in : (P : ℕ → Type 0) (n : ℕ) (xs : List ℕ) → AllByRecursion P xs → is_in n xs ≡ true → P n
of_in P n [] h e = absurd (cc)
of_in P n (x ∷ xs) h e = go (x == n) refl e (of_in P n xs h.1)
  where
    go : (b : Bool) → (x == n) ≡ b → (b || is_in n xs) ≡ true → (is_in n xs ≡ true → P n) → P n
    go true is f rest = subst P (same_number x n is) h.0
    go false is f rest = rest f

pub all_in : (xs : List ℕ) → AllByRecursion (λ (n : ℕ). is_in n xs ≡ true) xs
all_in xs = each_item (λ (n : ℕ). is_in n xs ≡ true) xs (λ k n e. item_in xs k n e)

pub in_front : (n : ℕ) (xs ys : List ℕ) → is_in n xs ≡ true → is_in n (xs ++ ys) ≡ true
in_front n xs ys e = list_any-append (λ (m : ℕ). m == n) xs ys ∙ or_left (is_in n xs) (is_in n ys) e

pub in_back : (n : ℕ) (xs ys : List ℕ) → is_in n ys ≡ true → is_in n (xs ++ ys) ≡ true
in_back n xs ys e = list_any-append (λ (m : ℕ). m == n) xs ys ∙ or_right (is_in n xs) (is_in n ys) e

pub in_flat : {A : Type 0} (f : A → List ℕ) (n : ℕ) (xs : List A) (k : ℕ) (x : A) → slice_get xs k ≡ Some x → is_in n (f x) ≡ true → is_in n (flat_map f xs) ≡ true
in_flat f n [] k x e h = absurd (cc)
in_flat f n (y ∷ xs) zero x e h = in_front n (f y) (flat_map f xs) (ap (λ z. is_in n (f z)) (same_some e) ∙ h)
in_flat f n (y ∷ xs) (suc k) x e h = in_back n (f y) (flat_map f xs) (in_flat f n xs k x e h)

-- of one among numbers
pub in_flat_of : (f : ℕ → List ℕ) (n m : ℕ) (xs : List ℕ) → is_in m xs ≡ true → is_in n (f m) ≡ true → is_in n (flat_map f xs) ≡ true
in_flat_of f n m [] e h = absurd (cc)
in_flat_of f n m (x ∷ xs) e h = go (x == m) refl e (λ g. in_flat_of f n m xs g h)
  where
    go : (b : Bool) → (x == m) ≡ b → (b || is_in m xs) ≡ true → (is_in m xs ≡ true → is_in n (flat_map f xs) ≡ true) → is_in n (f x ++ flat_map f xs) ≡ true
    go true is g rest = in_front n (f x) (flat_map f xs) (ap (λ (z : ℕ). is_in n (f z)) (same_number x m is) ∙ h)
    go false is g rest = in_back n (f x) (flat_map f xs) (rest g)

in_filter : (n : ℕ) (p : ℕ → Bool) (xs : List ℕ) → p n ≡ true → is_in n xs ≡ true → is_in n (filter p xs) ≡ true
in_filter n p [] h e = absurd (cc)
in_filter n p (x ∷ xs) h e = go (x == n) refl e (in_filter n p xs h)
  where
    stays : (b : Bool) → is_in n (filter p xs) ≡ true → is_in n (cond b (x ∷ filter p xs) (filter p xs)) ≡ true
    stays true f = or_right (x == n) (is_in n (filter p xs)) f
    stays false f = f

    go : (b : Bool) → (x == n) ≡ b → (b || is_in n xs) ≡ true → (is_in n xs ≡ true → is_in n (filter p xs) ≡ true) → is_in n (cond (p x) (x ∷ filter p xs) (filter p xs)) ≡ true
    go true is f rest =
        ap (λ b. is_in n (cond b (x ∷ filter p xs) (filter p xs))) (ap p (same_number x n is) ∙ h) ∙ or_left (x == n) (is_in n (filter p xs)) is
    go false is f rest = stays (p x) (rest f)

pub in_first : (n : ℕ) (ns : List ℕ) → is_in n ns ≡ true → is_in n (first_of_each ns) ≡ true
in_first n [] e = absurd (cc)
in_first n (m ∷ ns) e = go (m == n) refl e (in_first n ns)
  where
    go : (b : Bool) → (m == n) ≡ b → (b || is_in n ns) ≡ true → (is_in n ns ≡ true → is_in n (first_of_each ns) ≡ true) → is_in n (m ∷ filter (λ k. not (m == k)) (first_of_each ns)) ≡ true
    go true is f rest = or_left (m == n) (is_in n (filter (λ k. not (m == k)) (first_of_each ns))) is
    go false is f rest =
        or_right (m == n) (is_in n (filter (λ k. not (m == k)) (first_of_each ns))) (in_filter n (λ k. not (m == k)) (first_of_each ns) (ap not is) (rest f))
