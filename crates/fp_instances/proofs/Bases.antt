-- Which base ids have 32 bits, and the greatest id with them.
use Rattle.std.proofs.Common.{◌≡◌, ℕ, ◌+◌, ◌^◌, ◌-◌, ◌↔◌, ◌⊎◌, inl, inr, ℤ, pos, ◌+ℤ◌, ◌<ℤ◌, Option, Some, None, refl, sym, ap, subst, arith}
use Rattle.std.specs.Prelude.{option_map}
use Rattle.std.proofs.lemmas.Int.{ints}
use Rattle.fp_base.proofs.Options.{same_some}
use Rattle.fp_component_rules.specs.PortBroken.{IsOutside}
use Rattle.fp_instances.specs.InstanceBroken.{IsBaseOutside, IsNoId}

abbrev moved_by : ℕ → Option ℤ → Option ℤ
moved_by t base = option_map (λ (n : ℤ). n +ℤ pos t) base

module _ (t high : ℕ) (is : (high + t) ≡ (2 ^ 32 - 1)) where
  past : (n : ℤ) → pos high <ℤ n → pos (2 ^ 32 - 1) <ℤ (n +ℤ pos t)
  past n h = omega (arith, ints)

  back : (n : ℤ) → pos (2 ^ 32 - 1) <ℤ (n +ℤ pos t) → pos high <ℤ n
  back n h = omega (arith, ints)

  further : (n : ℤ) → pos (2 ^ 32 - 1) <ℤ n → pos high <ℤ n
  further n h = omega (arith, ints)

  below : (n : ℤ) → (n +ℤ pos t) <ℤ pos 0 → n <ℤ pos 0
  below n h = omega (arith, ints)

  told : (base : Option ℤ) (n : ℤ) → base ≡ Some n → (n <ℤ pos 0) ⊎ (pos high <ℤ n) → IsBaseOutside base (Some t)
  told base n e (inl low) = inl (n, e, inl low)
  told base n e (inr over) = inr (t, refl, (n +ℤ pos t, ap (moved_by t) e, inr (past n over)))

  at_base : (base : Option ℤ) (n : ℤ) → base ≡ Some n → (n <ℤ pos 0) ⊎ (pos (2 ^ 32 - 1) <ℤ n) → IsOutside (pos 0) (pos high) base
  at_base base n e (inl low) = (n, e, inl low)
  at_base base n e (inr over) = (n, e, inr (further n over))

  sides : (n m : ℤ) → (n +ℤ pos t) ≡ m → (m <ℤ pos 0) ⊎ (pos (2 ^ 32 - 1) <ℤ m) → (n <ℤ pos 0) ⊎ (pos high <ℤ n)
  sides n m e (inl low) = inl (below n (subst (λ (x : ℤ). x <ℤ pos 0) (sym e) low))
  sides n m e (inr over) = inr (back n (subst (λ (x : ℤ). pos (2 ^ 32 - 1) <ℤ x) (sym e) over))

  at_greatest : (base : Option ℤ) → IsNoId (moved_by t base) → IsOutside (pos 0) (pos high) base
  at_greatest None x = absurd (cc)
  at_greatest (Some n) x = (n, refl, sides n x.0 (same_some x.1) x.2)

  untold : (base : Option ℤ) → IsBaseOutside base (Some t) → IsOutside (pos 0) (pos high) base
  untold base (inl x) = at_base base x.0 x.1 x.2
  untold base (inr x) = at_greatest base (subst (λ (u : ℕ). IsNoId (moved_by u base)) (sym (same_some x.1)) x.2)

  pub with_greatest : (base : Option ℤ) → IsOutside (pos 0) (pos high) base ↔ IsBaseOutside base (Some t)
  with_greatest base = (λ x. told base x.0 x.1 x.2, untold base)

without : (base : Option ℤ) → IsBaseOutside base None → IsOutside (pos 0) (pos (2 ^ 32 - 1)) base
without base (inl x) = x
without base (inr x) = absurd (cc)

pub alone : (base : Option ℤ) → IsOutside (pos 0) (pos (2 ^ 32 - 1)) base ↔ IsBaseOutside base None
alone base = (λ x. inl x, without base)
