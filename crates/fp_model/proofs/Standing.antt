-- The values of expressions, one behind another.
use Rattle.std.proofs.Common.{◌≡◌, ℕ, zero, suc, ◌+◌, List, [], ◌∷◌, ◌++◌, length, flat_map, take, slice_get, Option, Some, refl, ◌<◌, ap, subst, ◌∙◌, arith, length-append}
use Rattle.std.proofs.lemmas.Option.{slice_get_within}
use Rattle.fp_base.proofs.Options.{same_some}
use Rattle.fp_base.proofs.Spots.{item_below}
use Rattle.fp_base.specs.declared.value.Value.{Value}
use Rattle.fp_tree.specs.declared.source.Source.{Source}
use Rattle.fp_meaning.specs.declared.item.Item.{Item}
use Rattle.fp_meaning.specs.Origins.{Placed, expressions_of}
use Rattle.fp_meaning.specs.Values.{opened, Val}
use Rattle.fp_consts.specs.Marked.{AreValues}
use Rattle.fp_model.specs.Given.{StandFrom, StandsAt}

module _ (source : Source) (values : List (Option Value)) where
  stand_from : (ps : List Placed) (from : ℕ) → ((k : ℕ) (p : Placed) → slice_get ps k ≡ Some p → StandsAt source values p (from + k)) → StandFrom source values ps from
  stand_from [] from each = tt
  stand_from (p ∷ ps) from each = (
    subst (λ (n : ℕ). StandsAt source values p n) (plus_none from) (each 0 p refl),
    stand_from ps (from + 1) (λ k q e. subst (λ (n : ℕ). StandsAt source values q n) (moved from k) (each (suc k) q e)),
  )
    where
      plus_none : (n : ℕ) → n + 0 ≡ n
      plus_none n = omega arith

      moved : (m n : ℕ) → m + suc n ≡ m + 1 + n
      moved m n = omega arith

  -- the values of expressions stand where each has one
  pub all_stand : (ps : List Placed) → AreValues source ps values → ((k : ℕ) (p : Placed) → slice_get ps k ≡ Some p → (v : Value) × Val source p.scope (opened p.expression) v) → StandFrom source values ps 0
  all_stand ps are each = stand_from ps 0 (λ k p e.
      let low = slice_get_within ps k p e in
      let o = item_below values k (below k (length ps) (length values) low are.each) in
      let v = each k p e in
      let there : o.0 ≡ Some v.0 = (are.exact k p o.0 e o.1).only v.0 v.1 in
      (v.0, ap (λ (n : ℕ). slice_get values n) (none_plus k) ∙ o.1 ∙ ap (λ (x : Option Value). Some x) there, v.1))
    where
      none_plus : (n : ℕ) → 0 + n ≡ n
      none_plus n = omega arith

      below : (k a b : ℕ) → k < a → b ≡ a → k < b
      below k a b low e = omega arith

  stand_split : (ps qs : List Placed) (from : ℕ) → StandFrom source values (ps ++ qs) from → StandFrom source values ps from × StandFrom source values qs (from + length ps)
  stand_split [] qs from h = (tt, subst (λ (n : ℕ). StandFrom source values qs n) (none_plus from) h)
    where
      none_plus : (n : ℕ) → n ≡ n + 0
      none_plus n = omega arith
  stand_split (p ∷ ps) qs from h =
      let r = stand_split ps qs (from + 1) h.1 in
      ((h.0, r.0), subst (λ (n : ℕ). StandFrom source values qs n) (moved from (length ps)) r.1)
    where
      moved : (m n : ℕ) → m + 1 + n ≡ m + suc n
      moved m n = omega arith

  -- those of one of the items, where those of all do
  pub item_stands : (is : List Item) (k : ℕ) (i : Item) (from : ℕ) → slice_get is k ≡ Some i → StandFrom source values (flat_map expressions_of is) from
      → StandFrom source values (expressions_of i) (from + length (flat_map expressions_of (take k is)))
  item_stands [] k i from at h = absurd (cc)
  item_stands (x ∷ is) zero i from at h =
      let same : x ≡ i = same_some at in
      subst (λ (y : Item). StandFrom source values (expressions_of y) (from + 0)) same
      (subst (λ (n : ℕ). StandFrom source values (expressions_of x) n) (none_plus from) (stand_split (expressions_of x) (flat_map expressions_of is) from h).0)
    where
      none_plus : (n : ℕ) → n ≡ n + 0
      none_plus n = omega arith
  item_stands (x ∷ is) (suc k) i from at h =
      let rest = item_stands is k i (from + length (expressions_of x)) at (stand_split (expressions_of x) (flat_map expressions_of is) from h).1 in
      let long = length-append (expressions_of x) (flat_map expressions_of (take k is)) in
      let same : from + length (expressions_of x) + length (flat_map expressions_of (take k is)) ≡ from + length (expressions_of x ++ flat_map expressions_of (take k is)) = omega arith in
      subst (λ (n : ℕ). StandFrom source values (expressions_of i) n) same rest
