-- What stands inside a state of the items stands inside it among the vertices.
use Rattle.std.proofs.Common.{◌≡◌, ℕ, zero, suc, ◌<◌, ◌||◌, true, eqb, List, length, slice_get, Option, Some, None, refl, sym, ap, ◌∙◌, arith}
use Rattle.std.specs.Option.{option_and_then}
use Rattle.std.proofs.lemmas.Option.{slice_get_within}
use Rattle.fp_base.proofs.Bools.{or_left, or_right}
use Rattle.fp_base.proofs.Numbers.{number_itself}
use Rattle.fp_tables.specs.Lists.{some_and}
use Rattle.fp_tables.specs.Positions.{is_inside}
use Rattle.fp_tables.specs.declared.machine.Vertex.{Vertex}
use Rattle.fp_machine_rules.specs.declared.item.Item.{Item}
use Rattle.fp_machine_rules.specs.Forms.{IsVertex, Inside, directly, deeper}
use Rattle.fp_sound_parts.proofs.Rings.{state_is_vertex}
use Rattle.fp_sound_parts.proofs.Standing.{Corresponds, HasParent}

module _ (items : List Item) (vs : List Vertex) (number : ℕ → ℕ) (at : Corresponds items vs number) where
  -- by the state that it stands in
  by_parent : (n v p q : ℕ) → HasParent items vs number v q → (eqb (number q) (number p) || is_inside vs n (number q) (number p)) ≡ true
      → is_inside vs (suc n) (number v) (number p) ≡ true
  by_parent n v p q h e = ap (some_and (λ (m : ℕ). eqb m (number p) || is_inside vs n m (number p))) h.parent ∙ e

  inside_by : (n p v : ℕ) → number v < n → IsVertex items v → Inside items p v → is_inside vs n (number v) (number p) ≡ true
  inside_by zero p v low is i = absurd (omega arith)
  inside_by (suc n) p v low is (directly s) =
      by_parent n v p p (at.parent v p is s) (or_left (eqb (number p) (number p)) (is_inside vs n (number p) (number p)) (number_itself (number p)))
  inside_by (suc n) p v low is (deeper {around = q} s i) =
      let h = at.parent v q is s in
      let less : number q < number v = h.rises in
      by_parent n v p q h
      (or_right (eqb (number q) (number p)) (is_inside vs n (number q) (number p)) (inside_by n p q (omega (arith, low, less)) (state_is_vertex items q h.state) i))

  inside_lies : (p v : ℕ) → IsVertex items v → Inside items p v → number v < length vs
  inside_lies p v is i = go (first i)
    where
      first : Inside items p v → (q : ℕ) × HasParent items vs number v q
      first (directly s) = (p, at.parent v p is s)
      first (deeper {around = q} s _) = (q, at.parent v q is s)

      go : (q : ℕ) × HasParent items vs number v q → number v < length vs
      go t = of (slice_get vs (number v)) refl
        where
          differ : ◌≡◌ {A = Option ℕ} None (Some (number t.0)) → ⊥
          differ z = cc

          of : (o : Option Vertex) → slice_get vs (number v) ≡ o → number v < length vs
          of (Some x) e = slice_get_within vs (number v) x e
          of None e = absurd (differ (ap (λ (o : Option Vertex). option_and_then (λ (x : Vertex). x.parent) o) (sym e) ∙ t.1.parent))

  pub inside : (p v : ℕ) → IsVertex items v → Inside items p v → is_inside vs (length vs) (number v) (number p) ≡ true
  inside p v is i = inside_by (length vs) p v (inside_lies p v is i) is i
