-- The vertices of a machine stand in preorder.
use Rattle.std.proofs.Common.{◌≡◌, ℕ, zero, suc, ◌+◌, ◌-◌, ◌<◌, ◌⊎◌, ◌&&◌, ◌||◌, ◌==◌, Bool, true, false, List, length, slice_get, Option, Some, None, refl, sym, ap, ◌∙◌, inl, inr, arith, eq-eqb}
use Rattle.std.specs.Prelude.{nat_lt, option_and_then, option_map}
use Rattle.std.proofs.lemmas.Bool.Decides.{nat_tests}
use Rattle.fp_base.proofs.Bools.{join, or_left, or_right}
use Rattle.fp_base.proofs.Options.{same_some}
use Rattle.fp_tree.specs.declared.machine.BehaviorElement.{BehaviorElement}
use Rattle.fp_tables.specs.Lists.{if_some, some_and}
use Rattle.fp_tables.specs.Positions.{are_in_preorder, is_inside, is_state, stands_in_order}
use Rattle.fp_tables.specs.declared.machine.Vertex.{Vertex}
use Rattle.fp_machine_rules.specs.Forms.{Inside, deeper, directly}
use Rattle.fp_machines.specs.Outline.{outline}
use Rattle.fp_machines.specs.Made.{is_vertex, vertex_in, vertex_number, vertices_from}
use Rattle.fp_machines.specs.Ordered.{AreInOrder, StandsBehind}
use Rattle.fp_sound_parts.proofs.Around.{IsStateAt, around_before, behind, element_in, inside_first, inside_from, parent_of, state_at, state_passes, vertex_lies_below, vertex_parent}
use Rattle.fp_sound_parts.proofs.Listed.{count_past, count_stays}
use Rattle.fp_sound_parts.proofs.Tests.{all_from_each}
use Rattle.fp_sound_parts.proofs.Vertices.{vertex_back, vertex_here}

module _ (es : List BehaviorElement) (in_order : AreInOrder (outline es)) where
  abbrev vs : List Vertex
  vs = vertices_from es 0 es

  abbrev number : ℕ → ℕ
  number v = vertex_number es v

  passed : (v : ℕ) (e : BehaviorElement) → slice_get es v ≡ Some e → is_vertex e.form ≡ true → number (suc v) ≡ suc (number v)
  passed v e h t = count_past (λ (e : BehaviorElement). is_vertex e.form) es v e h t

  stayed : (v : ℕ) (e : BehaviorElement) → slice_get es v ≡ Some e → is_vertex e.form ≡ false → number (suc v) ≡ number v
  stayed v e h t = count_stays (λ (e : BehaviorElement). is_vertex e.form) es v e h t

  -- ---- the last vertex up to an element inside a state is the state, or inside it

  record IsLast (state u : ℕ) : Type 0 where
    at : ℕ
    element : BehaviorElement
    here : slice_get es at ≡ Some element
    is : is_vertex element.form ≡ true
    next : number (suc u) ≡ suc (number at)
    inside : (at ≡ state) ⊎ Inside (outline es) state at

  last_of : (state u q : ℕ) (e : BehaviorElement) → slice_get es u ≡ Some e → (q ≡ state) ⊎ Inside (outline es) state q → StandsBehind (outline es) u q
      → Inside (outline es) state u → ((w : ℕ) → u ≡ suc w → Inside (outline es) state w → IsLast state w) → (b : Bool) → is_vertex e.form ≡ b → IsLast state u
  last_of state u q e h r s i rest true t = record { at = u; element = e; here = h; is = t; next = passed u e h t; inside = inr i }
  last_of state u q e h r s i rest false t = go s.beside
    where
      go : (u ≡ suc q) ⊎ ((w : ℕ) × (u ≡ suc w) × Inside (outline es) q w) → IsLast state u
      go (inl a) =
          let p = state_at es q s.is_state in
          record {
            at = q;
            element = p.element;
            here = p.here;
            is = state_passes es q p;
            next = stayed u e h t ∙ (ap number a ∙ passed q p.element p.here (state_passes es q p));
            inside = r;
          }
      go (inr (w, a, j)) =
          let n = rest w a (inside_from (outline es) state q w r j) in
          record { at = n.at; element = n.element; here = n.here; is = n.is; next = stayed u e h t ∙ (ap number a ∙ n.next); inside = n.inside }

  last : (bound state u : ℕ) → u < bound → Inside (outline es) state u → IsLast state u
  last zero state u l i = absurd (omega arith)
  last (suc bound) state u l i =
      let f = inside_first (outline es) state u i in
      let e = element_in es u (Some f.0) f.1 in
      last_of state u f.0 e.element e.here f.2 (behind es in_order u f.0 e.element e.here e.parent) i (λ w k j. last bound state w (omega (arith, l, k)) j)
      (is_vertex e.element.form) refl

  -- ---- inside a state

  some_inside : (n v p q : ℕ) → option_and_then (λ (x : Vertex). x.parent) (slice_get vs v) ≡ Some q → ((q == p) || is_inside vs n q p) ≡ true → is_inside vs (suc n) v p ≡ true
  some_inside n v p q e h = ap (some_and (λ (k : ℕ). (k == p) || is_inside vs n k p)) e ∙ h

  inside_by : (n state w : ℕ) (e : BehaviorElement) → number w < n → slice_get es w ≡ Some e → is_vertex e.form ≡ true → Inside (outline es) state w
      → is_inside vs n (number w) (number state) ≡ true
  inside_by zero state w e l h t i = absurd (omega arith)
  inside_by (suc n) state w e l h t (directly s) =
      let d = element_in es w (Some state) s in
      let q : e.parent ≡ Some state = ap (λ (x : BehaviorElement). x.parent) (same_some (sym h ∙ d.here)) ∙ d.parent in
      some_inside n (number w) (number state) (number state) (parent_of es w e h t ∙ ap (option_map number) q)
      (or_left (number state == number state) (is_inside vs n (number state) (number state)) (eq-eqb (number state) (number state) refl))
  inside_by (suc n) state w e l h t (deeper {around = u} s i) =
      let d = element_in es w (Some u) s in
      let q : e.parent ≡ Some u = ap (λ (x : BehaviorElement). x.parent) (same_some (sym h ∙ d.here)) ∙ d.parent in
      let b = behind es in_order w u e h q in
      let p = state_at es u b.is_state in
      let less = around_before es in_order w u b in
      some_inside n (number w) (number state) (number u) (parent_of es w e h t ∙ ap (option_map number) q)
      (or_right (number u == number state) (is_inside vs n (number u) (number state))
      (inside_by n state u p.element (omega (arith, l, less)) p.here (state_passes es u p) i))

  -- ---- in order

  abbrev stands_at : ℕ → ℕ → Bool
  stands_at n p = nat_lt p n && is_state (slice_get vs p) && ((n == suc p) || is_inside vs (length vs) (n - 1) p)

  is_a_state : (p : ℕ) → IsStateAt es p → is_state (slice_get vs (number p)) ≡ true
  is_a_state p s = go s.element.parent (vertex_here es p s.element)
    where
      go : (q : Option ℕ) → ((x : Vertex) → slice_get es p ≡ Some s.element → vertex_in es p s.element.parent s.element.form ≡ Some x → slice_get vs (number p) ≡ Some x)
          → is_state (slice_get vs (number p)) ≡ true
      go q at = ap is_state (at _ s.here (ap (vertex_in es p s.element.parent) s.is))

  beside : (v state : ℕ) → StandsBehind (outline es) v state → ((number v == suc (number state)) || is_inside vs (length vs) (number v - 1) (number state)) ≡ true
  beside v state b = go b.beside
    where
      goal : Type 0
      goal = ((number v == suc (number state)) || is_inside vs (length vs) (number v - 1) (number state)) ≡ true

      right_behind : number v ≡ suc (number state) → goal
      right_behind e = or_left (number v == suc (number state)) (is_inside vs (length vs) (number v - 1) (number state)) (eq-eqb (number v) (suc (number state)) e)

      by_last : (u : ℕ) → v ≡ suc u → IsLast state u → goal
      by_last u a n = of n.inside
        where
          is : number v ≡ suc (number n.at)
          is = ap number a ∙ n.next

          of : (n.at ≡ state) ⊎ Inside (outline es) state n.at → goal
          of (inl e) = right_behind (is ∙ ap (λ (k : ℕ). suc (number k)) e)
          of (inr i) =
              let one : number v - 1 ≡ number n.at = omega (arith, is) in
              or_right (number v == suc (number state)) (is_inside vs (length vs) (number v - 1) (number state))
              (ap (λ (k : ℕ). is_inside vs (length vs) k (number state)) one
              ∙ inside_by (length vs) state n.at n.element (vertex_lies_below es n.at n.element n.here n.is) n.here n.is i)

      go : (v ≡ suc state) ⊎ ((u : ℕ) × (v ≡ suc u) × Inside (outline es) state u) → goal
      go (inl a) = let p = state_at es state b.is_state in right_behind (ap number a ∙ passed state p.element p.here (state_passes es state p))
      go (inr (u, a, i)) = by_last u a (last (suc u) state u (omega arith) i)

  stands : (v : ℕ) (e : BehaviorElement) → slice_get es v ≡ Some e → (p : Option ℕ) → e.parent ≡ p → if_some (stands_at (number v)) (option_map number p) ≡ true
  stands v e h None q = refl
  stands v e h (Some state) q =
      let b = behind es in_order v state e h q in
      let less = around_before es in_order v state b in
      join (nat_lt (number state) (number v) && is_state (slice_get vs (number state))) ((number v == suc (number state)) || is_inside vs (length vs) (number v - 1) (number state))
      (join (nat_lt (number state) (number v)) (is_state (slice_get vs (number state))) (grind (arith, nat_tests, less)) (is_a_state state (state_at es state b.is_state)))
      (beside v state b)

  one_stands : (n : ℕ) (x : Vertex) → slice_get vs n ≡ Some x → stands_in_order vs n x ≡ true
  one_stands n x h =
      let b = vertex_back es n x h in
      ap (λ (k : ℕ). if_some (stands_at k) x.parent) b.number
      ∙ (ap (if_some (stands_at (number b.at))) (vertex_parent es b.at b.element.parent b.element.form x b.is)
      ∙ stands b.at b.element b.here b.element.parent refl)

  pub vertices_in_preorder : are_in_preorder vs ≡ true
  vertices_in_preorder = all_from_each (stands_in_order vs) 0 vs (λ k x h. let z : 0 + k ≡ k = omega arith in ap (λ (n : ℕ). stands_in_order vs n x) z ∙ one_stands k x h)
