-- What is broken by some element of lists that are put together.
use Rattle.std.proofs.Common.{◌≡◌, ◌⊎◌, ℕ, zero, suc, List, [], ◌∷◌, ◌++◌, map, flat_map, slice_get, Option, Some, None, refl, inl, inr, sym, subst}
use Rattle.fp_base.proofs.Lists.{get_front, no_item}
use Rattle.fp_base.proofs.Options.{same_some}
use Rattle.fp_base.specs.Least.{ByOptional, InSome}
use Rattle.fp_base.specs.declared.refusal.Refusal.{Refusal}
use Rattle.fp_part_values.specs.Names.{written}

module _ {A : Type 0} (P : A → Refusal → Type 0) (f : Refusal) where
  abbrev pub In : List A → Type 0
  In xs = InSome (λ k. P) xs f

  pub in_nothing : In [] → ⊥
  in_nothing t = no_item t.0 t.1 t.2

  pub in_front : (xs ys : List A) → In xs → In (xs ++ ys)
  in_front xs ys t = (t.0, t.1, get_front xs ys t.0 t.1 t.2, t.3)

  pub in_behind : (xs ys : List A) → In ys → In (xs ++ ys)
  in_behind [] ys t = t
  in_behind (x ∷ xs) ys t = let u = in_behind xs ys t in (suc u.0, u.1, u.2, u.3)

  either_at : (xs ys : List A) (k : ℕ) (x : A) → slice_get (xs ++ ys) k ≡ Some x → P x f → In xs ⊎ In ys
  either_at [] ys k x at p = inr (k, x, at, p)
  either_at (y ∷ xs) ys zero x at p = inl (0, x, at, p)
  either_at (y ∷ xs) ys (suc k) x at p = further (either_at xs ys k x at p)
    where
      further : In xs ⊎ In ys → In (y ∷ xs) ⊎ In ys
      further (inl t) = inl (suc t.0, t.1, t.2, t.3)
      further (inr t) = inr t

  pub in_either : (xs ys : List A) → In (xs ++ ys) → In xs ⊎ In ys
  in_either xs ys t = either_at xs ys t.0 t.1 t.2 t.3

  -- ---- what is left out

  written_at : (x y : A) (k : ℕ) → slice_get (x ∷ []) k ≡ Some y → P y f → P x f
  written_at x y zero at p = subst (λ (z : A). P z f) (sym (same_some at)) p
  written_at x y (suc k) at p = absurd (no_item k y at)

  pub in_written : (o : Option A) → In (written o) → ByOptional P o f
  in_written None t = in_nothing t
  in_written (Some x) t = written_at x t.1 t.0 t.2 t.3

  pub written_in : (o : Option A) → ByOptional P o f → In (written o)
  written_in None p = absurd p
  written_in (Some x) p = (0, x, refl, p)

  -- ---- lists that come from others

  module _ {B : Type 0} (g : B → A) where
    mapped_at : (ys : List B) (k : ℕ) (x : A) → slice_get (map g ys) k ≡ Some x → P x f → InSome (λ n (y : B). P (g y)) ys f
    mapped_at [] k x at p = absurd (no_item k x at)
    mapped_at (y ∷ ys) zero x at p = (0, y, refl, subst (λ (z : A). P z f) (sym (same_some at)) p)
    mapped_at (y ∷ ys) (suc k) x at p = let u = mapped_at ys k x at p in (suc u.0, u.1, u.2, u.3)

    pub in_mapped : (ys : List B) → In (map g ys) → InSome (λ n (y : B). P (g y)) ys f
    in_mapped ys t = mapped_at ys t.0 t.1 t.2 t.3

    at_mapped : (ys : List B) (k : ℕ) (y : B) → slice_get ys k ≡ Some y → P (g y) f → In (map g ys)
    at_mapped [] k y at p = absurd (no_item k y at)
    at_mapped (z ∷ ys) zero y at p = (0, g z, refl, subst (λ (b : B). P (g b) f) (sym (same_some at)) p)
    at_mapped (z ∷ ys) (suc k) y at p = let u = at_mapped ys k y at p in (suc u.0, u.1, u.2, u.3)

    pub mapped_in : (ys : List B) → InSome (λ n (y : B). P (g y)) ys f → In (map g ys)
    mapped_in ys t = at_mapped ys t.0 t.1 t.2 t.3

  module _ {B : Type 0} (g : B → List A) where
    pub in_flat : (ys : List B) → In (flat_map g ys) → (k : ℕ) × (y : B) × (slice_get ys k ≡ Some y) × In (g y)
    in_flat [] t = absurd (in_nothing t)
    in_flat (y ∷ ys) t = step (in_either (g y) (flat_map g ys) t) (in_flat ys)
      where
        step : In (g y) ⊎ In (flat_map g ys) → (In (flat_map g ys) → (k : ℕ) × (z : B) × (slice_get ys k ≡ Some z) × In (g z))
            → (k : ℕ) × (z : B) × (slice_get (y ∷ ys) k ≡ Some z) × In (g z)
        step (inl h) rest = (0, y, refl, h)
        step (inr h) rest = let u = rest h in (suc u.0, u.1, u.2, u.3)

    pub flat_in : (ys : List B) (k : ℕ) (y : B) → slice_get ys k ≡ Some y → In (g y) → In (flat_map g ys)
    flat_in [] k y at t = absurd (no_item k y at)
    flat_in (z ∷ ys) zero y at t = in_front (g z) (flat_map g ys) (subst (λ (b : B). In (g b)) (sym (same_some at)) t)
    flat_in (z ∷ ys) (suc k) y at t = in_behind (g z) (flat_map g ys) (flat_in ys k y at t)
