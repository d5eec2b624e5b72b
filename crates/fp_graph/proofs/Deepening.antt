-- The depth of the next vertex of an order.
use Rattle.std.proofs.Common.{◌≡◌, ◌≢◌, ℕ, zero, suc, ◌+◌, ◌<◌, ◌≤◌, ◌⊎◌, min, Bool, true, false, MatchBool, List, [], ◌∷◌, length, set, map, get_or, nat_lt, Option, Some, None, slice_get, refl, sym, ap, ◌∙◌, subst, inl, inr, arith, length-set, get_or-set_same, get_or-set_other}
use Rattle.std.proofs.lemmas.Option.{slice_get_within}
use Rattle.std.proofs.lemmas.List.{get_or_past}
use Rattle.std.proofs.lemmas.Bool.Decides.{nat_tests}
use Rattle.fp_graph.specs.declared.stretch.Stretch.{Stretch}
use Rattle.fp_graph.specs.Graph.{Edge}
use Rattle.fp_graph.specs.Chains.{IsOnCycle, Chain, alone, longer, IsSorted, AreFlags}
use Rattle.fp_graph.specs.Depths.{depth_in, IsInStretch, IsDeepest, IsDepth, AreDepths}
use Rattle.fp_base.proofs.Spots.{same_or_other, before_or_not}

module _ (stretches : List Stretch) (targets : List ℕ) where
  line_off : {v n : ℕ} → Chain (length stretches) (Edge stretches targets) v n → IsOnCycle (Edge stretches targets) v → ⊥
  line_off (alone lt none) = none
  line_off (longer none e l) = none

  -- on a cycle there is no chain
  pub cyclic_depth : (most v : ℕ) → IsOnCycle (Edge stretches targets) v → IsDepth stretches targets most v 0
  cyclic_depth most v cycle = record { some = λ n lt. absurd (omega arith); all = λ n lt l. absurd (line_off l cycle) }

  -- from the depths of what a vertex leads to, to its own
  module _ (most : ℕ) (depths : List ℕ) (each : length depths ≡ length stretches) (v : ℕ) (stretch : Stretch) (at : slice_get stretches v ≡ Some stretch)
      (off : IsOnCycle (Edge stretches targets) v → ⊥) (below : (w : ℕ) → Edge stretches targets v w → IsDepth stretches targets most w (get_or depths w 0))
      (d : ℕ) (is : IsDeepest targets depths stretch d) where
    from_edge : (i : ℕ) (o : Option ℕ) → slice_get targets i ≡ o → IsInStretch stretch i → 0 < d → depth_in depths o ≡ d → (n : ℕ) → n < d → Chain (length stretches) (Edge stretches targets) v (suc n)
    from_edge i None e edge_ pos same n lt = absurd (omega arith)
    from_edge i (Some w) e edge_ pos same n lt = go (before_or_not w (length stretches))
      where
        go : (w < length stretches) ⊎ (length stretches ≤ w) → Chain (length stretches) (Edge stretches targets) v (suc n)
        go (inl within) =
            let edge : Edge stretches targets v w = record { stretch = stretch; here = at; at = i; since = edge_.0; before = edge_.1; target = e; within = within } in
            longer off edge ((below w edge).some n (omega arith))
        go (inr past) = let none = get_or_past depths w 0 (omega arith) in absurd (omega arith)

    some : (n : ℕ) → n < min (d + 1) most → Chain (length stretches) (Edge stretches targets) v n
    some zero lt = alone (slice_get_within stretches v stretch at) off
    some (suc n) lt =
        let t = is.reached (omega arith) in
        from_edge t.0 (slice_get targets t.0) refl t.1 (omega arith) t.2 n (omega arith)

    used : (w : ℕ) → Edge stretches targets v w → get_or depths w 0 ≤ d
    used w e =
        let same : e.stretch ≡ stretch = some_same e.stretch stretch (sym e.here ∙ at) in
        let first : e.stretch.first ≡ stretch.first = ap (λ (x : Stretch). x.first) same in
        let last : e.stretch.end ≡ stretch.end = ap (λ (x : Stretch). x.end) same in
        let since = e.since in
        let before = e.before in
        let le = is.bound e.at (omega arith, omega arith) in
        subst (λ (o : Option ℕ). depth_in depths o ≤ d) e.target le
      where
        some_same : (a b : Stretch) → Some a ≡ Some b → a ≡ b
        some_same a b h = cc

    all : (n : ℕ) → n < most → Chain (length stretches) (Edge stretches targets) v n → n < min (d + 1) most
    all n lt (alone within none) = omega arith
    all n lt (longer {next = w} {n = m} none e l) =
        let deep = (below w e).all m (omega arith) l in
        let le = used w e in
        omega arith

    pub next_depth : IsDepth stretches targets most v (min (d + 1) most)
    next_depth = record { some = some; all = all }

  module _ (most : ℕ) (order : List ℕ) (cyclic : List Bool) (sorted : IsSorted (length stretches) (Edge stretches targets) order cyclic) (index : ℕ) (depths : List ℕ)
      (before : AreDepths stretches targets most order index depths) (v : ℕ) (here : slice_get order index ≡ Some v) where
    within : v < length depths
    within = let lt = sorted.ordered.within index v here in let each = before.each in omega arith

    split : (k u : ℕ) → slice_get order k ≡ Some u → k < index + 1 → (P : Type 0) → (k < index → P) → (v ≡ u → P) → P
    split k u e lt P earlier now = go (before_or_not k index)
      where
        go : (k < index) ⊎ (index ≤ k) → P
        go (inl h) = earlier h
        go (inr h) =
            let same : k ≡ index = omega arith in
            let there : slice_get order index ≡ Some u = subst (λ (x : ℕ). slice_get order x ≡ Some u) same e in
            now (cc)

    -- it is on a cycle
    pub passed_depths : slice_get cyclic v ≡ Some true → AreDepths stretches targets most order (index + 1) depths
    passed_depths flag =
        let cycle : IsOnCycle (Edge stretches targets) v = sorted.flagged.exact v true flag in
        record {
          each = before.each;
          done = λ k u lt e. split k u e lt (IsDepth stretches targets most u (get_or depths u 0)) (λ h. before.done k u h e)
              (λ same. subst (λ (x : ℕ). IsDepth stretches targets most x (get_or depths x 0)) same
              (subst (λ (x : ℕ). IsDepth stretches targets most v x) (sym (before.none v cycle)) (cyclic_depth most v cycle)));
          none = before.none;
        }

    -- it isn't
    pub measured_depths : slice_get cyclic v ≡ Some false → (stretch : Stretch) → slice_get stretches v ≡ Some stretch → (d : ℕ) → IsDeepest targets depths stretch d
        → AreDepths stretches targets most order (index + 1) (set depths v (min (d + 1) most))
    measured_depths flag stretch at d is =
        record {
          each = length-set depths v new ∙ before.each;
          done = λ k u lt e. split k u e lt (IsDepth stretches targets most u (get_or after u 0)) (λ h. old k u h e (same_or_other u v))
              (λ same. subst (λ (x : ℕ). IsDepth stretches targets most x (get_or after x 0)) same now);
          none = λ u cycle. other u cycle (same_or_other u v);
        }
      where
        new : ℕ
        new = min (d + 1) most

        after : List ℕ
        after = set depths v (min (d + 1) most)

        off : IsOnCycle (Edge stretches targets) v → ⊥
        off = sorted.flagged.exact v false flag

        below : (w : ℕ) → Edge stretches targets v w → IsDepth stretches targets most w (get_or depths w 0)
        below w e = let t = sorted.ordered.behind index v w here off e in before.done t.0 w t.1 t.2

        now : IsDepth stretches targets most v (get_or (set depths v (min (d + 1) most)) v 0)
        now =
            subst (λ (x : ℕ). IsDepth stretches targets most v x) (sym (get_or-set_same depths v (min (d + 1) most) 0 within))
            (next_depth most depths before.each v stretch at off below d is)

        old : (k u : ℕ) → k < index → slice_get order k ≡ Some u → (u ≡ v) ⊎ (u ≢ v) → IsDepth stretches targets most u (get_or (set depths v (min (d + 1) most)) u 0)
        old k u h e (inl same) = subst (λ (x : ℕ). IsDepth stretches targets most x (get_or (set depths v (min (d + 1) most)) x 0)) (sym same) now
        old k u h e (inr ne) =
            subst (λ (x : ℕ). IsDepth stretches targets most u x) (sym (get_or-set_other depths v u (min (d + 1) most) 0 ne)) (before.done k u h e)

        other : (u : ℕ) → IsOnCycle (Edge stretches targets) u → (u ≡ v) ⊎ (u ≢ v) → get_or (set depths v (min (d + 1) most)) u 0 ≡ 0
        other u cycle (inl same) = absurd (off (subst (λ (x : ℕ). IsOnCycle (Edge stretches targets) x) same cycle))
        other u cycle (inr ne) = get_or-set_other depths v u (min (d + 1) most) 0 ne ∙ before.none u cycle

  -- nothing is measured
  pub no_depths : (most : ℕ) (order : List ℕ) (depths : List ℕ) → length depths ≡ length stretches → ((v : ℕ) → get_or depths v 0 ≡ 0) → AreDepths stretches targets most order 0 depths
  no_depths most order depths each zeros = record { each = each; done = λ k v lt e. absurd (omega arith); none = λ v cycle. zeros v }

  -- all is measured
  pub heads_from : (order : List ℕ) (cyclic : List Bool) (count : ℕ) (depths : List ℕ) → IsSorted (length stretches) (Edge stretches targets) order cyclic → length order ≤ count
      → AreDepths stretches targets 257 order count depths → AreFlags (length stretches) (λ v. Chain (length stretches) (Edge stretches targets) v 256) (map (λ (depth : ℕ). nat_lt 256 depth) depths)
  heads_from order cyclic count depths sorted over all =
      record { each = long depths ∙ all.each; exact = λ v b e. exact v b (flag depths v b e) }
    where
      long : (xs : List ℕ) → length (map (λ (depth : ℕ). nat_lt 256 depth) xs) ≡ length xs
      long [] = refl
      long (x ∷ xs) = ap suc (long xs)

      flag : (xs : List ℕ) (v : ℕ) (b : Bool) → slice_get (map (λ (depth : ℕ). nat_lt 256 depth) xs) v ≡ Some b → (v < length xs) × (nat_lt 256 (get_or xs v 0) ≡ b)
      flag [] v b e = cc
      flag (x ∷ xs) zero b e = (omega arith, same)
        where
          same : nat_lt 256 x ≡ b
          same = cc
      flag (x ∷ xs) (suc v) b e = let t = flag xs v b e in (omega (arith, t.0), t.1)

      exact : (v : ℕ) (b : Bool) → (v < length depths) × (nat_lt 256 (get_or depths v 0) ≡ b) → MatchBool b (Chain (length stretches) (Edge stretches targets) v 256) (Chain (length stretches) (Edge stretches targets) v 256 → ⊥)
      exact v b t = go b t.1
        where
          depth : IsDepth stretches targets 257 v (get_or depths v 0)
          depth =
              let each = all.each in
              let lt = t.0 in
              let k = sorted.ordered.all v (omega arith) in
              let within = slice_get_within order k.0 v k.1 in
              all.done k.0 v (omega arith) k.1

          go : (b : Bool) → nat_lt 256 (get_or depths v 0) ≡ b → MatchBool b (Chain (length stretches) (Edge stretches targets) v 256) (Chain (length stretches) (Edge stretches targets) v 256 → ⊥)
          go true e = depth.some 256 (more (get_or depths v 0) e)
            where
              more : (n : ℕ) → nat_lt 256 n ≡ true → 256 < n
              more n h = grind (arith, nat_tests)
          go false e = λ l. few (get_or depths v 0) e (depth.all 256 (omega arith) l)
            where
              few : (n : ℕ) → nat_lt 256 n ≡ false → 256 < n → ⊥
              few n h lt = absurd (grind (arith, nat_tests))
