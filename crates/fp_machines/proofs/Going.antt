-- Names that are looked up one after another, and scope by scope.
use Rattle.std.proofs.Common.{◌≡◌, ℕ, suc, ◌+◌, ◌<◌, ◌≤◌, ◌-◌, false, is_some, List, [], ◌∷◌, length, drop, get_or, Option, Some, None, refl, sym, ap, subst, ◌∙◌, arith, add-one}
use Rattle.std.proofs.Math.Seq.{drop-cons}
use Rattle.std.specs.Prelude.{option_and_then}
use Rattle.fp_tree.specs.declared.name.Name.{Name}
use Rattle.fp_tree.specs.declared.machine.BehaviorElement.{BehaviorElement}
use Rattle.fp_machine_rules.specs.declared.item.Item.{Item}
use Rattle.fp_machine_rules.specs.Leaving.{parent_at}
use Rattle.fp_machines.specs.Scopes.{child, entered, inward, or_beyond, outward}

pub absent : (o : Option ℕ) → is_some o ≡ false → o ≡ None
absent None e = refl
absent (Some k) e = absurd cc

module _ (es : List BehaviorElement) (items : List Item) where
  dropped : (names : List Name) (i : ℕ) (name : Name) → i < length names → name ≡ get_or names i name → drop i names ≡ name ∷ drop (i + 1) names
  dropped names i name lt is = drop-cons names i name lt ∙ (ap (λ (n : Name). n ∷ drop (suc i) names) (sym is) ∙ rw add-one refl)

  pub goes_in : (names : List Name) (i v w : ℕ) (name : Name) (o : Option ℕ) → i < length names → name ≡ get_or names i name → o ≡ entered es items v name → o ≡ Some w
      → inward es items (drop (i + 1) names) w ≡ inward es items (drop i names) v
  goes_in names i v w name o lt is e h =
      ap (λ (q : Option ℕ). option_and_then (inward es items (drop (i + 1) names)) q) (sym h ∙ e)
      ∙ ap (λ (ns : List Name). inward es items ns v) (sym (dropped names i name lt is))

  pub ends_there : (names : List Name) (i v : ℕ) (name : Name) (o : Option ℕ) → i < length names → name ≡ get_or names i name → o ≡ entered es items v name → o ≡ None
      → None ≡ inward es items (drop i names) v
  ends_there names i v name o lt is e h =
      ap (λ (q : Option ℕ). option_and_then (inward es items (drop (i + 1) names)) q) (sym h ∙ e)
      ∙ ap (λ (ns : List Name). inward es items ns v) (sym (dropped names i name lt is))

module _ (items : List Item) (n : ℕ) where
  -- one round of the search outward
  pub round : (k : ℕ) (p : Option ℕ) → outward items (suc k) p n ≡ or_beyond (λ state. outward items k (parent_at items state) n) (child items p n) p
  unfolding outward
  round k p = refl

  pub none_left : (p : Option ℕ) → outward items 0 p n ≡ None
  unfolding outward
  none_left p = refl

  pub at_last : (m i : ℕ) (p : Option ℕ) → m ≤ i → None ≡ outward items (m - i) p n
  at_last m i p le = let k : m - i ≡ 0 = omega arith in subst (λ (j : ℕ). None ≡ outward items j p n) (sym k) (sym (none_left p))

  found_here : (beyond : ℕ → Option ℕ) (here p : Option ℕ) (v : ℕ) → here ≡ Some v → or_beyond beyond here p ≡ Some v
  found_here beyond None p v e = absurd cc
  found_here beyond (Some w) p v e = e

  pub is_found : (m i : ℕ) (p : Option ℕ) (here : Option ℕ) (v : ℕ) → i < m → here ≡ child items p n → here ≡ Some v → here ≡ outward items (m - i) p n
  is_found m i p here v lt e h =
      let k : m - i ≡ suc (m - (i + 1)) = omega arith in
      subst (λ (j : ℕ). here ≡ outward items j p n) (sym k)
      (h ∙ (sym (found_here _ (child items p n) p v (sym e ∙ h)) ∙ sym (round (m - (i + 1)) p)))

  pub is_nowhere : (m i : ℕ) (p : Option ℕ) (here : Option ℕ) → i < m → here ≡ child items p n → here ≡ None → p ≡ None → None ≡ outward items (m - i) p n
  is_nowhere m i p here lt e h q =
      let k : m - i ≡ suc (m - (i + 1)) = omega arith in
      subst (λ (j : ℕ). None ≡ outward items j p n) (sym k)
      (sym (nowhere (λ state. outward items (m - (i + 1)) (parent_at items state) n) (child items p n) p (sym e ∙ h) q) ∙ sym (round (m - (i + 1)) p))
    where
      nowhere : (beyond : ℕ → Option ℕ) (here p : Option ℕ) → here ≡ None → p ≡ None → or_beyond beyond here p ≡ None
      nowhere beyond None None e q = refl
      nowhere beyond None (Some s) e q = absurd cc
      nowhere beyond (Some w) p e q = absurd cc

  pub goes_out : (m i : ℕ) (p : Option ℕ) (here : Option ℕ) (state : ℕ) (out : Option ℕ) → i < m → here ≡ child items p n → here ≡ None → p ≡ Some state → out ≡ parent_at items state
      → outward items (m - (i + 1)) out n ≡ outward items (m - i) p n
  goes_out m i p here state out lt e h q is =
      let k : m - i ≡ suc (m - (i + 1)) = omega arith in
      subst (λ (j : ℕ). outward items (m - (i + 1)) out n ≡ outward items j p n) (sym k)
      (ap (λ (o : Option ℕ). outward items (m - (i + 1)) o n) is
      ∙ (sym (beyond_it (λ s. outward items (m - (i + 1)) (parent_at items s) n) (child items p n) p (sym e ∙ h) q) ∙ sym (round (m - (i + 1)) p)))
    where
      beyond_it : (beyond : ℕ → Option ℕ) (here p : Option ℕ) → here ≡ None → p ≡ Some state → or_beyond beyond here p ≡ beyond state
      beyond_it beyond None None e q = absurd cc
      beyond_it beyond None (Some s) e q = ap beyond (same q)
        where
          same : ◌≡◌ {A = Option ℕ} (Some s) (Some state) → s ≡ state
          same x = cc
      beyond_it beyond (Some w) p e q = absurd cc
