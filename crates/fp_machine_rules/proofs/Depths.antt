-- How deep items stand.
use Rattle.std.proofs.Common.{◌≡◌, ℕ, ◌+◌, ◌<◌, ◌≤◌, ◌⊎◌, ◌&&◌, nat_lt, Bool, true, false, MatchBool, List, [], ◌∷◌, ◌++◌, length, slice_get, Option, Some, None, option_and_then, refl, sym, ap, subst, ◌∙◌, inl, inr, arith}
use Rattle.std.proofs.lemmas.Option.{slice_get_within}
use Rattle.std.proofs.lemmas.Bool.{ltb-true, lt-ltb}
use Rattle.fp_machine_rules.specs.declared.item.Form.{Form}
use Rattle.fp_machine_rules.specs.declared.item.Item.{Item}
use Rattle.fp_machine_rules.specs.Forms.{Stands, StandsIn, is_vertex}
use Rattle.fp_machine_rules.specs.Nested.{Deep, outermost, below, IsTooDeepAt, NestsTooDeep, AreDepths}
use Rattle.fp_machine_rules.specs.Leaving.{parent_at, form_at}
use Rattle.fp_base.proofs.Spots.{get_push, before_or_not, item_below}
use Rattle.fp_machine_rules.proofs.Outward.{parent_stands}
use Rattle.fp_machine_rules.proofs.Steps.{form_stands}
use Rattle.fp_base.proofs.Bools.{both}
use Rattle.fp_machine_rules.proofs.Deciding.{decided, and_not}

module _ (items : List Item) where
  stands_none : (v : ℕ) → v < length items → parent_at items v ≡ None → StandsIn items v None
  stands_none v l e = let t = item_below items v l in record { item = t.0; here = t.1; parent = sym (ap (λ (o : Option Item). option_and_then (λ (y : Item). y.parent) o) t.1) ∙ e }

  pub deep_outermost : (v : ℕ) → v < length items → parent_at items v ≡ None → Deep items v 1
  deep_outermost v l e = outermost (stands_none v l e)

  pub deep_below : (v p n : ℕ) → parent_at items v ≡ Some p → Deep items p n → Deep items v (n + 1)
  deep_below v p n e d = below (parent_stands items v v p e) d

  same_parent : (v : ℕ) (p q : Option ℕ) → StandsIn items v p → StandsIn items v q → p ≡ q
  same_parent v p q a b = sym a.parent ∙ (ap (λ (x : Item). x.parent) (some_same (sym a.here ∙ b.here)) ∙ b.parent)
    where
      some_same : ◌≡◌ {A = Option Item} (Some a.item) (Some b.item) → a.item ≡ b.item
      some_same x = cc

  one_depth : {v n m : ℕ} → Deep items v n → Deep items v m → n ≡ m
  one_depth {v = v} (outermost a) (outermost b) = refl
  one_depth {v = v} (outermost a) (below {parent = p} b d) = absurd (differ (same_parent v None (Some p) a b))
    where
      differ : ◌≡◌ {A = Option ℕ} None (Some p) → ⊥
      differ x = cc
  one_depth {v = v} (below {parent = p} b d) (outermost a) = absurd (differ (same_parent v None (Some p) a b))
    where
      differ : ◌≡◌ {A = Option ℕ} None (Some p) → ⊥
      differ x = cc
  one_depth {v = v} (below {parent = p} {n = n} a d) (below {parent = q} {n = m} b e) =
      ap (λ (k : ℕ). k + 1) (one_depth d (subst (λ (k : ℕ). Deep items k m) (some_same (same_parent v (Some q) (Some p) b a)) e))
    where
      some_same : ◌≡◌ {A = Option ℕ} (Some q) (Some p) → q ≡ p
      some_same x = cc

  pub deep_vertex : (v : ℕ) (f : Form) (d : ℕ) (b : Bool) → form_at items v ≡ Some f → Deep items v d → b ≡ is_vertex f
      → MatchBool (b && nat_lt 16 d) (IsTooDeepAt items v) (IsTooDeepAt items v → ⊥)
  deep_vertex v f d b at deep is = decided (b && nat_lt 16 d) (IsTooDeepAt items v) yes_deep not_deep
    where
      stands : (p : Option ℕ) × Stands items v f p
      stands = form_stands items v f at

      yes_deep : (b && nat_lt 16 d) ≡ true → IsTooDeepAt items v
      yes_deep e =
          let p = both b (nat_lt 16 d) e in
          record {
            is = record { item = stands.1.item; here = stands.1.here; holds = ap (λ (g : Form). is_vertex g) stands.1.form ∙ (sym is ∙ p.0) };
            levels = d;
            deep = deep;
            past = ltb-true 16 d p.1;
          }

      some_same : (x y : Item) → ◌≡◌ {A = Option Item} (Some x) (Some y) → x ≡ y
      some_same x y z = cc

      not_deep : (b && nat_lt 16 d) ≡ false → IsTooDeepAt items v → ⊥
      not_deep e u =
          and_not b (nat_lt 16 d) e
          (is ∙ (ap (λ (g : Form). is_vertex g) (sym stands.1.form) ∙ (ap (λ (x : Item). is_vertex x.form) (some_same stands.1.item u.is.item (sym stands.1.here ∙ u.is.here)) ∙ u.is.holds)))
          (lt-ltb 16 d (subst (λ (n : ℕ). 16 < n) (one_depth u.deep deep) u.past))

  pub nests_none : ((k : ℕ) → k < length items → IsTooDeepAt items k → ⊥) → NestsTooDeep items → ⊥
  nests_none none t = none t.0 (slice_get_within items t.0 t.1.is.item t.1.is.here) t.1

  pub depths_more : (v d : ℕ) (depths depths' : List ℕ) → AreDepths items v depths → Deep items v d → d ≤ v + 1 → depths' ≡ depths ++ d ∷ [] → length depths' ≡ v + 1
      → AreDepths items (v + 1) depths'
  depths_more v d depths depths' h deep small is size = record {
    each = size;
    exact = λ w e i. exact_by w e (get_push depths d e w (ap (λ (x : List ℕ). slice_get x w) (sym is) ∙ i));
    small = λ w e i. small_by w e (get_push depths d e w (ap (λ (x : List ℕ). slice_get x w) (sym is) ∙ i));
  }
    where
      exact_by : (w e : ℕ) → (slice_get depths w ≡ Some e) ⊎ ((w ≡ length depths) × (d ≡ e)) → Deep items w e
      exact_by w e (inl i) = h.exact w e i
      exact_by w e (inr t) = subst (λ (x : ℕ). Deep items w x) t.1 (subst (λ (k : ℕ). Deep items k d) (sym (t.0 ∙ h.each)) deep)

      small_by : (w e : ℕ) → (slice_get depths w ≡ Some e) ⊎ ((w ≡ length depths) × (d ≡ e)) → e ≤ w + 1
      small_by w e (inl i) = h.small w e i
      small_by w e (inr t) = omega (arith, t.0, t.1, h.each, small)

  pub nests_more : (n : ℕ) → ((k : ℕ) → k < n → IsTooDeepAt items k → ⊥) → (IsTooDeepAt items n → ⊥) → (k : ℕ) → k < n + 1 → IsTooDeepAt items k → ⊥
  nests_more n before now k l = go (before_or_not k n)
    where
      go : (k < n) ⊎ (n ≤ k) → IsTooDeepAt items k → ⊥
      go (inl b) = before k b
      go (inr b) = subst (λ (m : ℕ). IsTooDeepAt items m → ⊥) (let s : n ≡ k = omega arith in s) now
