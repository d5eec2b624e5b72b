-- Lists in which no two items are related.
use Rattle.std.proofs.Common.{◌≡◌, ◌<◌, ℕ, suc, Bool, true, false, not, ◌||◌, cond, List, [], ◌∷◌, ◌++◌, map, filter, flat_map, refl, ap, arith}
use Rattle.std.specs.Prelude.{slice_get, ⊤}
use Rattle.std.specs.List.{AllByRecursion, list_any}
use Rattle.fp_base.proofs.Bools.{both, join, neither, not_true}
use Rattle.fp_base.proofs.Lists.{each_append, each_of_any, each_item}
use Rattle.fp_base.proofs.Passing.{each_filtered}
use Rattle.fp_tables.specs.Lists.{apart}
use Rattle.fp_tables.proofs.Optional.{some_and_at}
use Rattle.fp_scenario_check.specs.Planned.{IsRepeated}

pub each_joined : {A : Type 0} (P Q S : A → Type 0) → ((x : A) → P x → Q x → S x) → (xs : List A) → AllByRecursion P xs → AllByRecursion Q xs → AllByRecursion S xs
each_joined P Q S joins [] h k = tt
each_joined P Q S joins (x ∷ xs) h k = (joins x h.0 k.0, each_joined P Q S joins xs h.1 k.1)

-- the relation holds of no item and a later one
abbrev pub Apart : {A : Type 0} → (A → A → Type 0) → List A → Type 0
Apart R [] = ⊤
Apart R (x ∷ xs) = AllByRecursion (λ y. R x y → ⊥) xs × Apart R xs

-- ---- by tests

none_any : {A : Type 0} (p : A → Bool) (xs : List A) → AllByRecursion (λ y. p y ≡ true → ⊥) xs → list_any p xs ≡ false
none_any p [] h = refl
none_any p (x ∷ xs) h = go (p x) h.0 (none_any p xs h.1)
  where
    go : (b : Bool) → (b ≡ true → ⊥) → list_any p xs ≡ false → (b || list_any p xs) ≡ false
    go true not_so e = absurd (not_so refl)
    go false not_so e = e

pub tests_apart : {A : Type 0} (same : A → A → Bool) (xs : List A) → Apart (λ x y. same x y ≡ true) xs → apart same xs ≡ true
tests_apart same [] h = refl
tests_apart same (x ∷ xs) h = join _ _ (ap not (none_any (same x) xs h.0)) (tests_apart same xs h.1)

any_none : {A : Type 0} (p : A → Bool) (xs : List A) → list_any p xs ≡ false → AllByRecursion (λ y. p y ≡ true → ⊥) xs
any_none p [] h = tt
any_none p (x ∷ xs) h = let e = neither (p x) (list_any p xs) h in (go (p x) e.0, any_none p xs e.1)
  where
    go : (b : Bool) → b ≡ false → b ≡ true → ⊥
    go true is not_so = cc
    go false is not_so = cc

pub apart_tests : {A : Type 0} (same : A → A → Bool) (xs : List A) → apart same xs ≡ true → Apart (λ x y. same x y ≡ true) xs
apart_tests same [] h = tt
apart_tests same (x ∷ xs) h = let e = both (not (list_any (same x) xs)) (apart same xs) h in (any_none (same x) xs (not_true (list_any (same x) xs) e.0), apart_tests same xs e.1)

-- nothing stands behind one with which it is the same
pub unrepeated : {A : Type 0} (same : A → A → Bool) (xs : List A) → ((n : ℕ) → IsRepeated same xs n → ⊥) → Apart (λ x y. same x y ≡ true) xs
unrepeated same [] none = tt
unrepeated {A = A} same (x ∷ xs) none =
    (each_item (λ y. same x y ≡ true → ⊥) xs (λ k y e s. none (suc k) (0, first k, some_and_at (λ z. same x z) (slice_get xs k) y e s)), unrepeated same xs (λ n r. none (suc n) (suc r.0, later r.0 n r.1, r.2)))
  where
    first : (k : ℕ) → 0 < suc k
    first k = omega arith

    later : (m n : ℕ) → m < n → suc m < suc n
    later m n h = omega arith

-- ---- of other lists

pub apart_weaker : {A : Type 0} (R S : A → A → Type 0) → ((x y : A) → S x y → R x y) → (xs : List A) → Apart R xs → Apart S xs
apart_weaker R S to [] h = tt
apart_weaker R S to (x ∷ xs) h = (each_joined (λ y. R x y → ⊥) (λ y. ⊤) (λ y. S x y → ⊥) (λ y not_so t s. not_so (to x y s)) xs h.0 (each_of_any (λ y. ⊤) (λ y. tt) xs), apart_weaker R S to xs h.1)

each_beside : {A B : Type 0} (R : A → Type 0) (S : B → Type 0) (f : A → B) → ((a : A) → S (f a) → R a) → (xs : List A) → AllByRecursion (λ a. R a → ⊥) xs → AllByRecursion (λ b. S b → ⊥) (map f xs)
each_beside R S f to [] h = tt
each_beside R S f to (x ∷ xs) h = (λ s. h.0 (to x s), each_beside R S f to xs h.1)

pub apart_map : {A B : Type 0} (R : A → A → Type 0) (S : B → B → Type 0) (f : A → B) → ((a b : A) → S (f a) (f b) → R a b) → (xs : List A) → Apart R xs → Apart S (map f xs)
apart_map R S f to [] h = tt
apart_map R S f to (x ∷ xs) h = (each_beside (R x) (S (f x)) f (to x) xs h.0, apart_map R S f to xs h.1)

pub apart_filter : {A : Type 0} (R : A → A → Type 0) (p : A → Bool) (xs : List A) → Apart R xs → Apart R (filter p xs)
apart_filter R p [] h = tt
apart_filter R p (x ∷ xs) h = go (p x) (apart_filter R p xs h.1)
  where
    go : (b : Bool) → Apart R (filter p xs) → Apart R (cond b (x ∷ filter p xs) (filter p xs))
    go true rest = (each_filtered (λ y. R x y → ⊥) p xs h.0, rest)
    go false rest = rest

apart_append : {A : Type 0} (R : A → A → Type 0) (xs ys : List A) → Apart R xs → Apart R ys → AllByRecursion (λ x. AllByRecursion (λ y. R x y → ⊥) ys) xs → Apart R (xs ++ ys)
apart_append R [] ys h k across = k
apart_append R (x ∷ xs) ys h k across = (each_append (λ y. R x y → ⊥) xs ys h.0 across.0, apart_append R xs ys h.1 k across.1)

module _ {A B : Type 0} (R : B → B → Type 0) (f : A → List B) (In : A → Type 0) (Meets : A → A → Type 0) where
  abbrev pub Across : A → List B → Type 0
  Across a ys = AllByRecursion (λ x. AllByRecursion (λ y. R x y → ⊥) ys) (f a)

  across_all : ((a b : A) → In a → In b → (Meets a b → ⊥) → Across a (f b)) → (a : A) → In a → (bs : List A) → AllByRecursion In bs → AllByRecursion (λ b. Meets a b → ⊥) bs → Across a (flat_map f bs)
  across_all across a here [] ins meets = each_of_any (λ x. ⊤) (λ x. tt) (f a)
  across_all across a here (b ∷ bs) ins meets =
      each_joined (λ x. AllByRecursion (λ y. R x y → ⊥) (f b)) (λ x. AllByRecursion (λ y. R x y → ⊥) (flat_map f bs)) (λ x. AllByRecursion (λ y. R x y → ⊥) (f b ++ flat_map f bs))
      (λ x h k. each_append (λ y. R x y → ⊥) (f b) (flat_map f bs) h k) (f a) (across a b here ins.0 meets.0) (across_all across a here bs ins.1 meets.1)

  pub apart_flat : ((a : A) → In a → Apart R (f a)) → ((a b : A) → In a → In b → (Meets a b → ⊥) → Across a (f b)) → (xs : List A) → AllByRecursion In xs → Apart Meets xs → Apart R (flat_map f xs)
  apart_flat own across [] ins meets = tt
  apart_flat own across (a ∷ xs) ins meets =
      apart_append R (f a) (flat_map f xs) (own a ins.0) (apart_flat own across xs ins.1 meets.1) (across_all across a ins.0 xs ins.1 meets.0)
