-- Lists of views: what stays true when one of them changes, one more comes, or two are joined.
use Rattle.std.proofs.Common.{◌≡◌, ◌≢◌, ◌⊎◌, ℕ, zero, suc, ◌+◌, ◌<◌, ◌≤◌, true, List, [], ◌∷◌, ◌++◌, length, set, sym, refl, ap, ◌∙◌, subst, ⊎_elim, inl, inr, arith, Option, Some, None}
use mathlib.Core.Logic.{dite}
use mathlib.Core.Option.{some, some-ne-none, some-injective}
use native.Mathlib.Decide.{ℕ_discrete}
use lib.ListN.{get_elem?}
use Rattle.atomic_table.proofs.Lists.{at_set, set_here, set_else, at_longer}
use Rattle.fp_gate.specs.declared.view.Kept.{Kept}
use Rattle.fp_gate.specs.declared.view.View.{View}
use Rattle.fp_gate.specs.Views.{spent, has_ticket, waiting}
use Rattle.fp_gate.specs.Steps.{own, both}

module _ {A : Type 0} where
  pub at_less : (l : List A) (i : ℕ) (a : A) → get_elem? l i ≡ some a → i < length l
  at_less [] i a e = absurd (some-ne-none a (sym e))
  at_less (x ∷ xs) zero a e = omega arith
  at_less (x ∷ xs) (suc i) a e = let h = at_less xs i a e in omega arith

  pub there_at : (l : List A) (i : ℕ) → i < length l → (a : A) × (get_elem? l i ≡ some a)
  there_at [] i h = absurd (omega arith)
  there_at (x ∷ xs) zero h = (x, refl)
  there_at (x ∷ xs) (suc i) h = there_at xs i (omega arith)

  pub at_snoc : (l : List A) (a b : A) (j : ℕ) → get_elem? (l ++ a ∷ []) j ≡ some b → (get_elem? l j ≡ some b) ⊎ ((j ≡ length l) × (a ≡ b))
  at_snoc [] a b zero e = inr (refl, some-injective a b e)
  at_snoc [] a b (suc j) e = absurd (some-ne-none b (sym e))
  at_snoc (x ∷ xs) a b zero e = inl e
  at_snoc (x ∷ xs) a b (suc j) e = ⊎_elim inl (λ (t : (j ≡ length xs) × (a ≡ b)). inr (ap suc t.0, t.1)) (at_snoc xs a b j e)

  pub at_append : (k l : List A) (a : A) (j : ℕ) → get_elem? (k ++ l) j ≡ some a → ((i : ℕ) × (get_elem? k i ≡ some a)) ⊎ ((i : ℕ) × (get_elem? l i ≡ some a))
  at_append [] l a j e = inr (j, e)
  at_append (x ∷ xs) l a zero e = inl (0, e)
  at_append (x ∷ xs) l a (suc j) e = ⊎_elim (λ (t : (i : ℕ) × (get_elem? xs i ≡ some a)). inl (suc t.0, t.1)) inr (at_append xs l a j e)

  pub at_after : (k l : List A) (i : ℕ) (a : A) → get_elem? l i ≡ some a → (j : ℕ) × (get_elem? (k ++ l) j ≡ some a)
  at_after [] l i a e = (i, e)
  at_after (x ∷ xs) l i a e = let t = at_after xs l i a e in (suc t.0, t.1)

  pub sole : (a : A) (i : ℕ) (b : A) → get_elem? (a ∷ []) i ≡ some b → a ≡ b
  sole a zero b e = some-injective a b e
  sole a (suc i) b e = absurd (some-ne-none b (sym e))

  pub sole_at : (a : A) (i : ℕ) (b : A) → get_elem? (a ∷ []) i ≡ some b → i ≡ 0
  sole_at a zero b e = refl
  sole_at a (suc i) b e = absurd (some-ne-none b (sym e))

-- the view that stands at i after a join has taken in what stood at a
abbrev Place : ℕ → ℕ → ℕ → ℕ → Type 0
Place id other i a = ((i ≡ id) × ((a ≡ id) ⊎ (a ≡ other))) ⊎ ((i ≡ a) × (a ≢ id) × (a ≢ other))

same_place : (id other i j a : ℕ) → Place id other i a → Place id other j a → i ≡ j
same_place id other i j a (inl p) (inl q) = p.0 ∙ sym q.0
same_place id other i j a (inl p) (inr q) = absurd (⊎_elim q.1 q.2 p.1)
same_place id other i j a (inr p) (inl q) = absurd (⊎_elim p.1 p.2 q.1)
same_place id other i j a (inr p) (inr q) = p.0 ∙ sym q.0

has_ticket-le : (t : Option ℕ) → has_ticket t ≤ 1
has_ticket-le None = omega arith
has_ticket-le (Some k) = omega arith

module _ {N I : Type 0} where
  pub waiting-set : (vs : List (View N I)) (j : ℕ) (v w : View N I) → get_elem? vs j ≡ some v → waiting (set vs j w) + has_ticket v.ticket ≡ waiting vs + has_ticket w.ticket
  waiting-set [] j v w at = absurd (some-ne-none v (sym at))
  waiting-set (x ∷ xs) zero v w at = let e : has_ticket x.ticket ≡ has_ticket v.ticket = ap (λ (u : View N I). has_ticket u.ticket) (some-injective x v at) in omega arith
  waiting-set (x ∷ xs) (suc j) v w at = let e = waiting-set xs j v w at in omega arith

  pub waiting-le : (vs : List (View N I)) → waiting vs ≤ length vs
  waiting-le [] = omega arith
  waiting-le (x ∷ xs) = let a = has_ticket-le x.ticket in let b = waiting-le xs in omega arith

  pub lives : (v : View N I) → v.name ≢ None → v ≢ spent
  lives v is e = is (ap (λ (u : View N I). u.name) e)

  pub is_named : (v : View N I) (m : N) → v.name ≡ Some m → v.name ≢ None
  is_named v m is e = absurd (cc)

  -- a view that was spent is so still, when the live one at id changes
  pub still_spent : (vs : List (View N I)) (id k : ℕ) (v w : View N I) → get_elem? vs id ≡ some v → v ≢ spent → get_elem? vs k ≡ some spent → get_elem? (set vs id w) k ≡ some spent
  still_spent vs id k v w at live gone = set_else vs id k w (λ e. live (some-injective v spent (sym at ∙ (ap (get_elem? vs) (sym e) ∙ gone)))) ∙ gone

  -- each view has P, where the changed one has it and the others keep it
  pub each_set : (P : ℕ → View N I → Type 0) (vs : List (View N I)) (id : ℕ) (w : View N I) → P id w → ((j : ℕ) (u : View N I) → j ≢ id → get_elem? vs j ≡ some u → P j u)
      → (j : ℕ) (u : View N I) → get_elem? (set vs id w) j ≡ some u → P j u
  each_set P vs id w mine others j u e = ⊎_elim (λ (t : (j ≡ id) × (w ≡ u)). subst (λ (x : ℕ × View N I). P x.0 x.1) (λ i. (sym t.0 i, t.1 i)) mine)
      (λ (t : (j ≢ id) × (get_elem? vs j ≡ some u)). others j u t.0 t.1) (at_set vs id j w u e)

  abbrev pub Apart : List (View N I) → Type 0
  Apart vs = (i j k : ℕ) (v w : View N I) → get_elem? vs i ≡ some v → get_elem? vs j ≡ some w → v.ticket ≡ Some k → w.ticket ≡ Some k → i ≡ j

  pub apart_set : (vs : List (View N I)) (id : ℕ) (x : View N I) → Apart vs → ((j k : ℕ) (u : View N I) → j ≢ id → get_elem? vs j ≡ some u → u.ticket ≡ Some k → x.ticket ≡ Some k → ⊥) → Apart (set vs id x)
  apart_set vs id x old new i j k v w a b p q =
      ⊎_elim (λ (s : (i ≡ id) × (x ≡ v)). ⊎_elim (λ (t : (j ≡ id) × (x ≡ w)). s.0 ∙ sym t.0)
      (λ (t : (j ≢ id) × (get_elem? vs j ≡ some w)). absurd (new j k w t.0 t.1 q (ap (λ (u : View N I). u.ticket) s.1 ∙ p))) (at_set vs id j x w b))
      (λ (s : (i ≢ id) × (get_elem? vs i ≡ some v)). ⊎_elim (λ (t : (j ≡ id) × (x ≡ w)). absurd (new i k v s.0 s.1 p (ap (λ (u : View N I). u.ticket) t.1 ∙ q)))
      (λ (t : (j ≢ id) × (get_elem? vs j ≡ some w)). old i j k v w s.1 t.1 p q) (at_set vs id j x w b)) (at_set vs id i x v a)

  -- a view in its turn stands there still
  pub turn_set : (vs : List (View N I)) (id j : ℕ) (v w u : View N I) → get_elem? vs id ≡ some v → (v.in_turn ≡ true → w.in_turn ≡ true) → get_elem? vs j ≡ some u → u.in_turn ≡ true
      → (i : ℕ) × (x : View N I) × (get_elem? (set vs id w) i ≡ some x) × (x.in_turn ≡ true)
  turn_set vs id j v w u at keeps_turn there on = dite (ℕ_discrete j id)
      (λ e. (id, w, set_here vs id w (at_less vs id v at), keeps_turn (ap (λ (z : View N I). z.in_turn) (some-injective v u (sym at ∙ (ap (get_elem? vs) (sym e) ∙ there))) ∙ on)))
      (λ ne. (j, u, set_else vs id j w ne ∙ there, on))

module _ {N I : Type 0} where
  -- the list of the number k is among these
  abbrev pub Has : List (Kept N I) → ℕ → Type 0
  Has l k = (i : ℕ) × (o : Kept N I) × (get_elem? l i ≡ some o) × (o.number ≡ k)

  -- some view keeps the list of the number k beside its own
  abbrev pub Keeper : List (View N I) → ℕ → Type 0
  Keeper views k = (j : ℕ) × (v : View N I) × (i : ℕ) × (o : Kept N I) × (get_elem? views j ≡ some v) × (get_elem? v.others i ≡ some o) × (o.number ≡ k)

  -- a spent number has its keeper still, when the live view at id changes and keeps no less
  pub kept_set : (vs : List (View N I)) (id : ℕ) (v w : View N I) → get_elem? vs id ≡ some v → w ≢ spent
      → ((i : ℕ) (o : Kept N I) → get_elem? v.others i ≡ some o → (i' : ℕ) × (get_elem? w.others i' ≡ some o))
      → ((k : ℕ) → get_elem? vs k ≡ some spent → Keeper vs k) → (k : ℕ) → get_elem? (set vs id w) k ≡ some spent → Keeper (set vs id w) k
  kept_set vs id v w at live more kept k gone = ⊎_elim (λ (t : (k ≡ id) × (w ≡ spent)). absurd (live t.1))
      (λ (t : (k ≢ id) × (get_elem? vs k ≡ some spent)). let m = kept k t.1 in dite (ℕ_discrete m.0 id)
      (λ e. let it : v ≡ m.1 = some-injective v m.1 (sym at ∙ (ap (get_elem? vs) (sym e) ∙ m.4)) in
      let f = more m.2 m.3 (ap (λ (u : View N I). get_elem? u.others m.2) it ∙ m.5) in (id, w, f.0, m.3, set_here vs id w (at_less vs id v at), f.1, m.6))
      (λ ne. (m.0, m.1, m.2, m.3, set_else vs id m.0 w ne ∙ m.4, m.5, m.6))) (at_set vs id k w spent gone)

  -- no two views keep one number beside their own
  abbrev pub Only : List (View N I) → Type 0
  Only vs = (i j k : ℕ) (v w : View N I) → get_elem? vs i ≡ some v → get_elem? vs j ≡ some w → Has v.others k → Has w.others k → i ≡ j

  pub none_has : (l : List (Kept N I)) (k : ℕ) → l ≡ [] → Has l k → ⊥
  none_has l k e h = some-ne-none h.1 (sym (ap (λ (m : List (Kept N I)). get_elem? m h.0) (sym e) ∙ h.2))

  old_others : (vs : List (View N I)) (id i : ℕ) (v w u : View N I) → get_elem? vs id ≡ some v → w.others ≡ v.others → get_elem? (set vs id w) i ≡ some u → (x : View N I) × (get_elem? vs i ≡ some x) × (x.others ≡ u.others)
  old_others vs id i v w u at same there = ⊎_elim (λ (t : (i ≡ id) × (w ≡ u)). (v, ap (get_elem? vs) t.0 ∙ at, sym same ∙ ap (λ (z : View N I). z.others) t.1))
      (λ (t : (i ≢ id) × (get_elem? vs i ≡ some u)). (u, t.1, refl)) (at_set vs id i w u there)

  pub only_set : (vs : List (View N I)) (id : ℕ) (v w : View N I) → get_elem? vs id ≡ some v → w.others ≡ v.others → Only vs → Only (set vs id w)
  only_set vs id v w at same old i j k u x a b p q =
      let f = old_others vs id i v w u at same a in let g = old_others vs id j v w x at same b in
      old i j k f.0 g.0 f.1 g.1 (subst (λ (l : List (Kept N I)). Has l k) (sym f.2) p) (subst (λ (l : List (Kept N I)). Has l k) (sym g.2) q)

  pub only_snoc : (vs : List (View N I)) (x : View N I) → Only vs → x.others ≡ [] → Only (vs ++ x ∷ [])
  only_snoc vs x old bare i j k v w a b p q =
      ⊎_elim (λ (s : get_elem? vs i ≡ some v). ⊎_elim (λ (t : get_elem? vs j ≡ some w). old i j k v w s t p q)
      (λ (t : (j ≡ length vs) × (x ≡ w)). absurd (none_has w.others k (ap (λ (u : View N I). u.others) (sym t.1) ∙ bare) q)) (at_snoc vs x w j b))
      (λ (s : (i ≡ length vs) × (x ≡ v)). absurd (none_has v.others k (ap (λ (u : View N I). u.others) (sym s.1) ∙ bare) p)) (at_snoc vs x v i a)

  -- where a number that is kept after a join was kept before: by its own pass, or by a view
  abbrev Source : List (View N I) → ℕ → ℕ → View N I → ℕ → ℕ → Type 0
  Source vs id other w i k = ((i ≡ id) × (k ≡ w.number)) ⊎ ((a : ℕ) × (x : View N I) × (get_elem? vs a ≡ some x) × Has x.others k × Place id other i a)

  of_both : (vs : List (View N I)) (id other i k : ℕ) (v w : View N I) → get_elem? vs id ≡ some v → get_elem? vs other ≡ some w → i ≡ id
      → (m : ℕ) (o : Kept N I) → get_elem? (own w ∷ (w.others ++ v.others)) m ≡ some o → o.number ≡ k → Source vs id other w i k
  of_both vs id other i k v w at was here zero o e n = inl (here, sym n ∙ ap (λ (z : Kept N I). z.number) (sym (some-injective (own w) o e)))
  of_both vs id other i k v w at was here (suc m) o e n = ⊎_elim (λ (t : (c : ℕ) × (get_elem? w.others c ≡ some o)). inr (other, w, was, (t.0, o, t.1, n), inl (here, inr refl)))
      (λ (t : (c : ℕ) × (get_elem? v.others c ≡ some o)). inr (id, v, at, (t.0, o, t.1, n), inl (here, inl refl))) (at_append w.others v.others o m e)

  source : (vs : List (View N I)) (id other : ℕ) (v w : View N I) → get_elem? vs id ≡ some v → get_elem? vs other ≡ some w
      → (i k : ℕ) (u : View N I) → get_elem? (set (set vs id (both v w)) other spent) i ≡ some u → Has u.others k → Source vs id other w i k
  source vs id other v w at was i k u there h = ⊎_elim (λ (t : (i ≡ other) × (spent ≡ u)). absurd (none_has u.others k (ap (λ (z : View N I). z.others) (sym t.1)) h))
      (λ (t : (i ≢ other) × (get_elem? (set vs id (both v w)) i ≡ some u)). ⊎_elim
      (λ (x : (i ≡ id) × (both v w ≡ u)). let h' : Has (both v w).others k = subst (λ (z : View N I). Has z.others k) (sym x.1) h in of_both vs id other i k v w at was x.0 h'.0 h'.1 h'.2 h'.3)
      (λ (x : (i ≢ id) × (get_elem? vs i ≡ some u)). inr (i, u, x.1, h, inr (refl, x.0, t.0))) (at_set vs id i (both v w) u t.1)) (at_set (set vs id (both v w)) other i spent u there)

  pub only_joined : (vs : List (View N I)) (id other : ℕ) (v w : View N I) → get_elem? vs id ≡ some v → get_elem? vs other ≡ some w → w ≢ spent → w.number ≡ other
      → ((a k : ℕ) (x : View N I) → get_elem? vs a ≡ some x → Has x.others k → get_elem? vs k ≡ some spent) → Only vs → Only (set (set vs id (both v w)) other spent)
  only_joined vs id other v w at was live mine gone old i j k u x a b p q = go (source vs id other v w at was i k u a p) (source vs id other v w at was j k x b q)
    where
      go : Source vs id other w i k → Source vs id other w j k → i ≡ j
      go (inl s) (inl t) = s.0 ∙ sym t.0
      go (inl s) (inr t) = absurd (live (some-injective w spent (sym was ∙ (ap (get_elem? vs) (sym (s.1 ∙ mine)) ∙ gone t.0 k t.1 t.2 t.3))))
      go (inr s) (inl t) = absurd (live (some-injective w spent (sym was ∙ (ap (get_elem? vs) (sym (t.1 ∙ mine)) ∙ gone s.0 k s.1 s.2 s.3))))
      go (inr s) (inr t) = let e : s.0 ≡ t.0 = old s.0 t.0 k s.1 t.1 s.2 t.2 s.3 t.3 in same_place id other i j t.0 (subst (λ (z : ℕ). Place id other i z) e s.4) t.4

  pub waiting-append : (vs ws : List (View N I)) → waiting (vs ++ ws) ≡ waiting vs + waiting ws
  waiting-append [] ws = omega arith
  waiting-append (x ∷ xs) ws = let e = waiting-append xs ws in omega arith

  pub apart_snoc : (vs : List (View N I)) (x : View N I) → Apart vs → x.ticket ≡ None → Apart (vs ++ x ∷ [])
  apart_snoc vs x old none_yet i j k v w a b p q =
      ⊎_elim (λ (s : get_elem? vs i ≡ some v). ⊎_elim (λ (t : get_elem? vs j ≡ some w). old i j k v w s t p q)
      (λ (t : (j ≡ length vs) × (x ≡ w)). let e : Some k ≡ None = sym q ∙ (ap (λ (u : View N I). u.ticket) (sym t.1) ∙ none_yet) in absurd (cc)) (at_snoc vs x w j b))
      (λ (s : (i ≡ length vs) × (x ≡ v)). let e : Some k ≡ None = sym p ∙ (ap (λ (u : View N I). u.ticket) (sym s.1) ∙ none_yet) in absurd (cc)) (at_snoc vs x v i a)

  -- the keeper of k, once w was joined into v
  pub keeper_joined : (k : ℕ) (vs vs' : List (View N I)) (id other : ℕ) (v w : View N I) (m : Keeper vs k) → get_elem? vs id ≡ some v → get_elem? vs other ≡ some w → get_elem? vs' id ≡ some (both v w)
      → (m.0 ≢ id → m.0 ≢ other → get_elem? vs' m.0 ≡ get_elem? vs m.0) → Dec (m.0 ≡ id) → Dec (m.0 ≡ other) → Keeper vs' k
  keeper_joined k vs vs' id other v w m at was here else (yes e) d =
      let it : v ≡ m.1 = some-injective v m.1 (sym at ∙ (ap (get_elem? vs) (sym e) ∙ m.4)) in
      let t = at_after (own w ∷ w.others) v.others m.2 m.3 (ap (λ (u : View N I). get_elem? u.others m.2) it ∙ m.5) in (id, both v w, t.0, m.3, here, t.1, m.6)
  keeper_joined k vs vs' id other v w m at was here else (no ne) (yes e) =
      let it : w ≡ m.1 = some-injective w m.1 (sym was ∙ (ap (get_elem? vs) (sym e) ∙ m.4)) in
      (id, both v w, suc m.2, m.3, here, at_longer w.others v.others m.2 m.3 (ap (λ (u : View N I). get_elem? u.others m.2) it ∙ m.5), m.6)
  keeper_joined k vs vs' id other v w m at was here else (no ne) (no ne') = (m.0, m.1, m.2, m.3, else ne ne' ∙ m.4, m.5, m.6)
