-- Of each number of a list the first.
use Rattle.std.proofs.Common.{◌≡◌, ◌∙◌, ◌==◌, ◌||◌, ℕ, Bool, true, false, not, cond, List, [], ◌∷◌, ◌++◌, refl, ap}
use Rattle.std.specs.List.{filter, AllByRecursion}
use Rattle.std.proofs.lemmas.List.{append-nil}
use Rattle.std.proofs.lemmas.List.Elements.{filter-append}
use Rattle.std.proofs.lemmas.List.Folds.{list_any-append}
use Rattle.std.proofs.Math.Bool.{or-false}
use Rattle.fp_topologies.specs.ImportFirsts.{has_number}
use Rattle.fp_topologies.specs.Imports.{first_of_each}

-- ---- a number more

abbrev others : ℕ → List ℕ → List ℕ
others x ns = filter (λ (m : ℕ). not (x == m)) ns

others_pushed : (x n : ℕ) (ns : List ℕ) (b : Bool) → (x == n) ≡ b → others x (ns ++ n ∷ []) ≡ cond b (others x ns) (others x ns ++ n ∷ [])
others_pushed x n ns b is = filter-append (λ (m : ℕ). not (x == m)) ns (n ∷ []) ∙ go b is
  where
    go : (b : Bool) → (x == n) ≡ b → others x ns ++ cond (not (x == n)) (n ∷ []) [] ≡ cond b (others x ns) (others x ns ++ n ∷ [])
    go true e = ap (λ (y : Bool). others x ns ++ cond (not y) (n ∷ []) []) e ∙ append-nil (others x ns)
    go false e = ap (λ (y : Bool). others x ns ++ cond (not y) (n ∷ []) []) e

pub first_pushed : (ns : List ℕ) (n : ℕ) → first_of_each (ns ++ n ∷ []) ≡ cond (has_number n ns) (first_of_each ns) (first_of_each ns ++ n ∷ [])
first_pushed [] n = refl
first_pushed (x ∷ ns) n = ap (λ (zs : List ℕ). x ∷ others x zs) (first_pushed ns n) ∙ go (x == n) refl (has_number n ns)
  where
    go : (b : Bool) → (x == n) ≡ b → (h : Bool)
        → x ∷ others x (cond h (first_of_each ns) (first_of_each ns ++ n ∷ [])) ≡ cond (b || h) (x ∷ others x (first_of_each ns)) (x ∷ (others x (first_of_each ns) ++ n ∷ []))
    go true is true = refl
    go false is true = refl
    go true is false = ap (λ (zs : List ℕ). x ∷ zs) (others_pushed x n (first_of_each ns) true is)
    go false is false = ap (λ (zs : List ℕ). x ∷ zs) (others_pushed x n (first_of_each ns) false is)

pub has_pushed : (i n : ℕ) (ns : List ℕ) → has_number i (ns ++ n ∷ []) ≡ (has_number i ns || (n == i))
has_pushed i n ns = list_any-append (λ (m : ℕ). m == i) ns (n ∷ []) ∙ ap (λ (b : Bool). has_number i ns || b) (or-false (n == i))

-- ---- what holds of all

module _ (P : ℕ → Type 0) where
  others_all : (x : ℕ) (ns : List ℕ) → AllByRecursion P ns → AllByRecursion P (others x ns)
  others_all x [] h = tt
  others_all x (n ∷ ns) h = go (not (x == n)) (others_all x ns h.1)
    where
      go : (b : Bool) → AllByRecursion P (others x ns) → AllByRecursion P (cond b (n ∷ others x ns) (others x ns))
      go true rest = (h.0, rest)
      go false rest = rest

  pub first_all : (ns : List ℕ) → AllByRecursion P ns → AllByRecursion P (first_of_each ns)
  first_all [] h = tt
  first_all (n ∷ ns) h = (h.0, others_all n (first_of_each ns) (first_all ns h.1))
