-- Steps from a vertex to the state round it.
use Rattle.std.proofs.Common.{◌≡◌, ◌≢◌, ℕ, zero, suc, ◌+◌, ◌-◌, ◌<◌, false, ◌||◌, List, Option, option_and_then, Some, slice_get, refl, ap, sym, ◌∙◌, arith, eqb, sub-one}
use Rattle.std.proofs.lemmas.Bool.Decides.{nat_tests}
use Rattle.fp_tables.specs.Lists.{if_some, some_and}
use Rattle.fp_tables.specs.Positions.{is_inside}
use Rattle.fp_tables.specs.Machines.{is_nested_by}
use Rattle.fp_tables.specs.declared.machine.Vertex.{Vertex}

abbrev pub parent : List Vertex → ℕ → Option ℕ
parent vs v = option_and_then (λ (x : Vertex). x.parent) (slice_get vs v)

module _ (vs : List Vertex) (v : ℕ) where
  pub nested_by_none : (n : ℕ) → n ≡ 0 → false ≡ is_nested_by vs n v
  unfolding is_nested_by
  nested_by_none zero e = refl
  nested_by_none (suc n) e = absurd (cc)

  pub nested_step : (n : ℕ) → n ≢ 0 → is_nested_by vs n v ≡ if_some (is_nested_by vs (n - 1)) (parent vs v)
  unfolding is_nested_by
  nested_step zero ne = absurd (ne refl)
  nested_step (suc n) ne = rw sub-one refl

  pub inside_step : (p n k : ℕ) → k < n → is_inside vs (n - k) v p ≡ some_and (λ q. eqb q p || is_inside vs (n - (k + 1)) q p) (parent vs v)
  inside_step p n k lt = go (n - k) (n - (k + 1)) (omega arith)
    where
      go : (a b : ℕ) → a ≡ suc b → is_inside vs a v p ≡ some_and (λ q. eqb q p || is_inside vs b q p) (parent vs v)
      go a b e = ap (λ (n : ℕ). is_inside vs n v p) e

  pub inside_on : (p n k q : ℕ) → k < n → Some q ≡ parent vs v → q ≢ p → is_inside vs (n - k) v p ≡ is_inside vs (n - (k + 1)) q p
  inside_on p n k q lt e ne =
      let differs : eqb q p ≡ false = grind (arith, nat_tests) in
      inside_step p n k lt ∙ ap (some_and (λ q. eqb q p || is_inside vs (n - (k + 1)) q p)) (sym e) ∙ rw differs refl
