-- Two lists, item by item.
use Rattle.std.proofs.Common.{◌≡◌, suc, Bool, true, List, [], ◌∷◌, length, refl, ap}
use Rattle.std.specs.List.{AllByRecursion, list_all}
use Rattle.fp_base.proofs.Bools.{join}
use Rattle.fp_scenario_check.specs.Planned.{Pairwise}
use Rattle.fp_scenario_check.proofs.Apart.{Apart}

module _ {A B : Type 0} (P : A → B → Type 0) where
  pub all_planned : (In : A → Type 0) (test : B → Bool) → ((a : A) (b : B) → In a → P a b → test b ≡ true) → (xs : List A) (ys : List B) → AllByRecursion In xs → Pairwise P xs ys → list_all test ys ≡ true
  all_planned In test good [] [] ins plan = refl
  all_planned In test good [] (y ∷ ys) ins plan = absurd plan
  all_planned In test good (x ∷ xs) [] ins plan = absurd plan
  all_planned In test good (x ∷ xs) (y ∷ ys) ins plan = join _ _ (good x y ins.0 plan.0) (all_planned In test good xs ys ins.1 plan.1)

  pub as_many : (xs : List A) (ys : List B) → Pairwise P xs ys → length ys ≡ length xs
  as_many [] [] plan = refl
  as_many [] (y ∷ ys) plan = absurd plan
  as_many (x ∷ xs) [] plan = absurd plan
  as_many (x ∷ xs) (y ∷ ys) plan = ap suc (as_many xs ys plan.1)

  module _ (R : A → A → Type 0) (S : B → B → Type 0) (back : (a b : A) (x y : B) → P a x → P b y → S x y → R a b) where
    none_beside : (a : A) (x : B) → P a x → (bs : List A) (ys : List B) → Pairwise P bs ys → AllByRecursion (λ b. R a b → ⊥) bs → AllByRecursion (λ y. S x y → ⊥) ys
    none_beside a x is [] [] plan h = tt
    none_beside a x is [] (y ∷ ys) plan h = absurd plan
    none_beside a x is (b ∷ bs) [] plan h = absurd plan
    none_beside a x is (b ∷ bs) (y ∷ ys) plan h = (λ s. h.0 (back a b x y is plan.0 s), none_beside a x is bs ys plan.1 h.1)

    pub apart_beside : (xs : List A) (ys : List B) → Pairwise P xs ys → Apart R xs → Apart S ys
    apart_beside [] [] plan h = tt
    apart_beside [] (y ∷ ys) plan h = absurd plan
    apart_beside (x ∷ xs) [] plan h = absurd plan
    apart_beside (x ∷ xs) (y ∷ ys) plan h = (none_beside x y plan.0 xs ys plan.1 h.0, apart_beside xs ys plan.1 h.1)
