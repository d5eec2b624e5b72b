-- What stands in a state of vertices in preorder.
use Rattle.std.proofs.Common.{◌≡◌, ℕ, zero, suc, ◌+◌, ◌-◌, ◌<◌, ◌≤◌, Bool, true, false, ◌&&◌, ◌||◌, eqb, ltb, min, max, List, [], ◌∷◌, length, Option, None, Some, option_and_then, slice_get, ◌⊎◌, inl, inr, refl, sym, ap, ap₂, subst, ◌∙◌, arith}
use Rattle.std.specs.List.{list_all}
use Rattle.std.proofs.lemmas.Bool.Decides.{nat_tests}
use Rattle.std.proofs.lemmas.Option.{slice_get_within}
use Rattle.fp_tables.specs.Lists.{all_from, if_some, some_and}
use Rattle.fp_tables.specs.Positions.{is_state, is_inside, stands_in_order, are_in_preorder}
use Rattle.fp_sound_machines.specs.Behind.{join_spans, span, span_is_inside}
use Rattle.fp_tables.specs.declared.machine.Vertex.{Vertex}
use Rattle.fp_base.proofs.Bools.{both, or_cases}
use Rattle.fp_sound_machines.proofs.Nesting.{parent}

all_at : {A : Type 0} (f : ℕ → A → Bool) (n k p : ℕ) (xs : List A) (x : A) → p ≡ n + k → all_from f n xs ≡ true → slice_get xs k ≡ Some x → f p x ≡ true
all_at f n k p [] x e h g = absurd (cc)
all_at f n zero p (y ∷ xs) x e h g =
    let same : y ≡ x = cc in
    let place : n ≡ p = omega arith in
    subst (λ (m : ℕ). f m x ≡ true) place (ap (f n) (sym same) ∙ (both (f n y) (all_from f (suc n) xs) h).0)
all_at f n (suc k) p (y ∷ xs) x e h g = all_at f (suc n) k p xs x (omega arith) (both (f n y) (all_from f (suc n) xs) h).1 g

-- one vertex stands in another, maybe through others
data Stands (vs : List Vertex) : ℕ → ℕ → Type 0 where
  once : (v p : ℕ) → parent vs v ≡ Some p → Stands vs v p
  again : (v q p : ℕ) → parent vs v ≡ Some q → Stands vs q p → Stands vs v p

through : (vs : List Vertex) (v q p : ℕ) → Stands vs v q → Stands vs q p → Stands vs v p
through vs _ _ p (once v q e) h = again v q p e h
through vs _ _ p (again v r q e s) h = again v r p e (through vs r q p s h)

module _ (vs : List Vertex) where
  from_inside : (n v p : ℕ) → is_inside vs n v p ≡ true → Stands vs v p
  from_inside zero v p h = absurd (cc)
  from_inside (suc n) v p h = go (from_inside n) (parent vs v) refl h
    where
      go : ((q p : ℕ) → is_inside vs n q p ≡ true → Stands vs q p) → (o : Option ℕ) → parent vs v ≡ o → some_and (λ q. eqb q p || is_inside vs n q p) o ≡ true → Stands vs v p
      go more None e h = absurd (cc)
      go more (Some q) e h = elim (or_cases (eqb q p) (is_inside vs n q p) h) [
        | inl s ↦ let same : q ≡ p = grind (arith, nat_tests) in once v p (e ∙ ap Some same)
        | inr s ↦ again v q p e (more q p s)
      ]

  module _ (ordered : are_in_preorder vs ≡ true) where
    record Follows (v q : ℕ) : Type 0 where
      later : q < v
      next : (v ≡ suc q) ⊎ Stands vs (v - 1) q

    follows : (v q : ℕ) (o : Option Vertex) → slice_get vs v ≡ o → option_and_then (λ (x : Vertex). x.parent) o ≡ Some q → Follows v q
    follows v q None g e = absurd (cc)
    follows v q (Some x) g e = go x.parent e (all_at (stands_in_order vs) 0 v v vs x (omega arith) ordered g)
      where
        go : (o : Option ℕ) → o ≡ Some q → if_some (λ p. ltb p v && is_state (slice_get vs p) && (eqb v (suc p) || is_inside vs (length vs) (v - 1) p)) o ≡ true → Follows v q
        go None e h = absurd (cc)
        go (Some p) e h =
            let same : p ≡ q = cc in
            let h = subst (λ (p : ℕ). (ltb p v && is_state (slice_get vs p) && (eqb v (suc p) || is_inside vs (length vs) (v - 1) p)) ≡ true) same h in
            let parts = both (ltb q v && is_state (slice_get vs q)) _ h in
            let first : ltb q v ≡ true = (both (ltb q v) (is_state (slice_get vs q)) parts.0).0 in
            record {
              later = grind (arith, nat_tests);
              next = elim (or_cases (eqb v (suc q)) (is_inside vs (length vs) (v - 1) q) parts.1) [
                | inl s ↦ let here : v ≡ suc q = grind (arith, nat_tests) in inl here
                | inr s ↦ inr (from_inside (length vs) (v - 1) q s)
              ];
            }

    first_below : (v p : ℕ) → Stands vs v p → p < v
    first_below _ _ (once v p e) = (follows v p (slice_get vs v) refl e).later
    first_below _ _ (again v q p e s) =
        let first = (follows v q (slice_get vs v) refl e).later in
        let rest = first_below q p s in
        omega (arith, first, rest)

    to_inside : (n v p : ℕ) → v < n → Stands vs v p → is_inside vs n v p ≡ true
    to_inside zero v p lt s = absurd (omega arith)
    to_inside (suc n) _ _ lt (once v p e) = rw (e, itself p) refl
      where
        itself : (p : ℕ) → eqb p p ≡ true
        itself p = grind (arith, nat_tests)
    to_inside (suc n) _ _ lt (again v q p e s) =
        let first = (follows v q (slice_get vs v) refl e).later in
        rw (e, to_inside n q p (omega (arith, first)) s) (or_true (eqb q p))
      where
        or_true : (b : Bool) → (b || true) ≡ true
        or_true true = refl
        or_true false = refl

    lies : (v : ℕ) (o : Option Vertex) → slice_get vs v ≡ o → (p : ℕ) → option_and_then (λ (x : Vertex). x.parent) o ≡ Some p → v < length vs
    lies v None g p e = absurd (cc)
    lies v (Some x) g p e = slice_get_within vs v x g

    stands_lies : (v p : ℕ) → Stands vs v p → v < length vs
    stands_lies _ _ (once v p e) = lies v (slice_get vs v) refl p e
    stands_lies _ _ (again v q p e s) = lies v (slice_get vs v) refl q e

    inside : (v p : ℕ) → Stands vs v p → is_inside vs (length vs) v p ≡ true
    inside v p s = to_inside (length vs) v p (stands_lies v p s) s

    -- what comes before something in a state, and after the state, is in it too
    before : (u p : ℕ) → p < u → Stands vs (suc u) p → Stands vs u p
    before u p lt s = go (suc u) p refl lt s
      where
        from_next : (v q p : ℕ) → v ≡ suc u → p < u → Follows v q → (q ≡ p) ⊎ Stands vs q p → Stands vs u p
        from_next v q p e lt f s = elim f.next [
          | inl n ↦ let same : q ≡ u = omega (arith, n, e) in elim s [ inl k ↦ absurd (omega (arith, k, same)) | inr k ↦ subst (λ (x : ℕ). Stands vs x p) same k ]
          | inr n ↦
              let same : v - 1 ≡ u = omega (arith, e) in
              let here = subst (λ (x : ℕ). Stands vs x q) same n in
              elim s [ inl k ↦ subst (Stands vs u) k here | inr k ↦ through vs u q p here k ]
        ]

        go : (v p : ℕ) → v ≡ suc u → p < u → Stands vs v p → Stands vs u p
        go _ _ e lt (once v p h) = from_next v p p e lt (follows v p (slice_get vs v) refl h) (inl refl)
        go _ _ e lt (again v q p h s) = from_next v q p e lt (follows v q (slice_get vs v) refl h) (inr s)

    between : (d u p : ℕ) → p < u → Stands vs (u + d) p → Stands vs u p
    between zero u p lt s = let same : u + 0 ≡ u = omega arith in subst (λ (x : ℕ). Stands vs x p) same s
    between (suc d) u p lt s =
        let same : u + suc d ≡ suc (u + d) = omega arith in
        between d u p lt (before (u + d) p (omega arith) (subst (λ (x : ℕ). Stands vs x p) same s))

    convex : (p l u h : ℕ) → l ≤ u → u ≤ h → is_inside vs (length vs) l p ≡ true → is_inside vs (length vs) h p ≡ true → is_inside vs (length vs) u p ≡ true
    convex p l u h lu uh least most =
        let first = first_below l p (from_inside (length vs) l p least) in
        let same : h ≡ u + (h - u) = omega arith in
        inside u p (between (h - u) u p (omega (arith, first)) (subst (λ (x : ℕ). Stands vs x p) same (from_inside (length vs) h p most)))

    -- ---- the least and the greatest

    abbrev is_in : ℕ → ℕ → Bool
    is_in p v = is_inside vs (length vs) v p

    squeeze : (a b c : Bool) → (a ≡ true → c ≡ true → b ≡ true) → (a && (b && c)) ≡ (a && c)
    squeeze false b c h = refl
    squeeze true true c h = refl
    squeeze true false true h = h refl refl
    squeeze true false false h = refl

    middle : (a b c : Bool) → (b ≡ true → c ≡ true → a ≡ true) → (a && (b && c)) ≡ (b && c)
    middle true b c h = refl
    middle false true true h = h refl refl
    middle false true false h = refl
    middle false false c h = refl

    outer : (a b c : Bool) → (b ≡ true → a ≡ true → c ≡ true) → (a && (b && c)) ≡ (b && a)
    outer false true c h = refl
    outer false false c h = refl
    outer true true true h = refl
    outer true true false h = h refl refl
    outer true false c h = refl

    abbrev Rises : Option (ℕ × ℕ) → Type 0
    Rises None = Unit {0}
    Rises (Some s) = s.0 ≤ s.1

    join_rises : (n : ℕ) (o : Option (ℕ × ℕ)) → Rises o → Rises (join_spans (Some (n, n)) o)
    join_rises n None h = omega arith
    join_rises n (Some s) h = omega arith

    span_rises : (ns : List ℕ) → Rises (span ns)
    span_rises [] = tt
    span_rises (n ∷ ns) = join_rises n (span ns) (span_rises ns)

    both_in : (p n : ℕ) (a b : Bool) → a ≡ b → (is_in p n && a) ≡ (is_in p n && b)
    both_in p n a b e = ap (λ (x : Bool). is_in p n && x) e

    ends_at : (p l h i j : ℕ) → l ≡ i → h ≡ j → (is_in p l && is_in p h) ≡ (is_in p i && is_in p j)
    ends_at p l h i j s t = ap₂ (λ (x y : ℕ). is_in p x && is_in p y) s t

    join_in : (p n : ℕ) (s : ℕ × ℕ) → s.0 ≤ s.1 → (is_in p n && (is_in p s.0 && is_in p s.1)) ≡ (is_in p (min n s.0) && is_in p (max n s.1))
    join_in p n s h = go (ltb n s.0) (ltb s.1 n) refl refl
      where
        go : (a b : Bool) → ltb n s.0 ≡ a → ltb s.1 n ≡ b → (is_in p n && (is_in p s.0 && is_in p s.1)) ≡ (is_in p (min n s.0) && is_in p (max n s.1))
        go true b e f =
            let lt : n < s.0 = grind (arith, nat_tests) in
            let order = h in
            squeeze (is_in p n) (is_in p s.0) (is_in p s.1) (λ x y. convex p n s.0 s.1 (omega arith) order x y) ∙ ends_at p n s.1 (min n s.0) (max n s.1) (omega (arith, order)) (omega (arith, order))
        go false true e f =
            let lt : s.1 < n = grind (arith, nat_tests) in
            let order = h in
            outer (is_in p n) (is_in p s.0) (is_in p s.1) (λ x y. convex p s.0 s.1 n order (omega arith) x y) ∙ ends_at p s.0 n (min n s.0) (max n s.1) (omega (arith, order)) (omega (arith, order))
        go false false e f =
            let least : s.0 ≤ n = grind (arith, nat_tests) in
            let most : n ≤ s.1 = grind (arith, nat_tests) in
            middle (is_in p n) (is_in p s.0) (is_in p s.1) (λ x y. convex p s.0 n s.1 least most x y) ∙ ends_at p s.0 s.1 (min n s.0) (max n s.1) (omega arith) (omega arith)

    cons_in : (p n : ℕ) (o : Option (ℕ × ℕ)) → Rises o → (is_in p n && span_is_inside vs p o) ≡ span_is_inside vs p (join_spans (Some (n, n)) o)
    cons_in p n None h = one (is_in p n)
      where
        one : (b : Bool) → (b && true) ≡ (b && b)
        one true = refl
        one false = refl
    cons_in p n (Some s) h = join_in p n s h

    pub span_in : (p : ℕ) (ns : List ℕ) → list_all (λ v. is_inside vs (length vs) v p) ns ≡ span_is_inside vs p (span ns)
    span_in p [] = refl
    span_in p (n ∷ ns) = both_in p n _ _ (span_in p ns) ∙ cons_in p n (span ns) (span_rises ns)
