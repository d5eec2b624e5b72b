-- Tests that decide facts.
use Rattle.std.proofs.Common.{◌≡◌, ℕ, ◌&&◌, Bool, true, false, MatchBool, List, length, slice_get, Option, Some, None, option_map, refl, sym, ap, subst, ◌∙◌, arith}
use Rattle.fp_base.proofs.Bools.{not_both}
use Rattle.fp_machine_rules.specs.declared.item.Item.{Item}
use Rattle.fp_machine_rules.specs.Leaving.{AreFlags}
use Rattle.fp_machine_rules.specs.Undefined.{flags_from}
use Rattle.fp_machine_rules.proofs.Steps.{flags_get, flags_length}

pub decided : (b : Bool) (R : Type 0) → (b ≡ true → R) → (b ≡ false → R → ⊥) → MatchBool b R (R → ⊥)
decided true R f g = f refl
decided false R f g = g refl

pub and_not : (a b : Bool) → (a && b) ≡ false → a ≡ true → b ≡ true → ⊥
and_not a b e x y = not_both (ap (λ (c : Bool). c && b) x ∙ y) e

-- flags of items, each of which decides
pub flags_tell : (P : ℕ → Type 0) (f : ℕ → Item → Bool) (items : List Item) (flags : List Bool) → flags ≡ flags_from f 0 items
    → ((v : ℕ) (x : Item) → slice_get items v ≡ Some x → MatchBool (f v x) (P v) (P v → ⊥)) → AreFlags P (length items) flags
flags_tell P f items flags is each = record { each = ap length is ∙ flags_length f 0 items; exact = exact }
  where
    exact : (v : ℕ) (b : Bool) → slice_get flags v ≡ Some b → MatchBool b (P v) (P v → ⊥)
    exact v b e = go (slice_get items v) refl (sym (flags_get f 0 items v v (omega arith)) ∙ (ap (λ (fs : List Bool). slice_get fs v) (sym is) ∙ e))
      where
        some_same : (c : Bool) → ◌≡◌ {A = Option Bool} (Some c) (Some b) → c ≡ b
        some_same c z = cc

        none : ◌≡◌ {A = Option Bool} None (Some b) → ⊥
        none z = cc

        go : (o : Option Item) → slice_get items v ≡ o → option_map (λ (x : Item). f v x) (slice_get items v) ≡ Some b → MatchBool b (P v) (P v → ⊥)
        go (Some x) here s =
            subst (λ (c : Bool). MatchBool c (P v) (P v → ⊥)) (some_same (f v x) (sym (ap (λ (o : Option Item). option_map (λ (x : Item). f v x) o) here) ∙ s)) (each v x here)
        go None here s = absurd (none (sym (ap (λ (o : Option Item). option_map (λ (x : Item). f v x) o) here) ∙ s))
