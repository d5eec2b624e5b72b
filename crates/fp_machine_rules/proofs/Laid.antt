-- Items that stand in states before them.
use Rattle.std.proofs.Common.{◌≡◌, ℕ, ◌+◌, ◌<◌, ◌≤◌, ◌⊎◌, List, length, slice_get, Option, Some, sym, ap, subst, ◌∙◌, inl, inr, arith}
use Rattle.std.proofs.lemmas.Option.{slice_get_within}
use Rattle.fp_machine_rules.specs.declared.item.Item.{Item}
use Rattle.fp_machine_rules.specs.Forms.{IsLaid, IsLaidAt}
use Rattle.fp_base.proofs.Spots.{before_or_not}

module _ (items : List Item) where
  pub laid_not : (n : ℕ) (x : Item) → slice_get items n ≡ Some x → (IsLaidAt items n x → ⊥) → IsLaid items → ⊥
  laid_not n x here other laid = other (λ p e. laid n p (record { item = x; here = here; parent = e }))

  pub laid_more : (n : ℕ) (x : Item) → ((v : ℕ) (y : Item) → v < n → slice_get items v ≡ Some y → IsLaidAt items v y) → slice_get items n ≡ Some x → IsLaidAt items n x
      → (v : ℕ) (y : Item) → v < n + 1 → slice_get items v ≡ Some y → IsLaidAt items v y
  laid_more n x before here now v y l e = go (before_or_not v n)
    where
      same : (a b : Item) → ◌≡◌ {A = Option Item} (Some a) (Some b) → a ≡ b
      same a b z = cc

      go : (v < n) ⊎ (n ≤ v) → IsLaidAt items v y
      go (inl b) = before v y b e
      go (inr b) =
          let s : n ≡ v = omega arith in
          subst (λ (z : Item). IsLaidAt items v z) (same x y (sym here ∙ (ap (λ (m : ℕ). slice_get items m) s ∙ e))) (subst (λ (m : ℕ). IsLaidAt items m x) s now)

  pub laid_ends : (n : ℕ) → length items ≤ n → ((v : ℕ) (y : Item) → v < n → slice_get items v ≡ Some y → IsLaidAt items v y) → IsLaid items
  laid_ends n end all v p h = let l = slice_get_within items v h.item h.here in all v h.item (omega (arith, l, end)) h.here p h.parent
