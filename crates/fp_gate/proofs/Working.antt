-- The rule again, in the form in which a step is proved: what each view has, and what all of them have.
use Rattle.std.proofs.Common.{◌≡◌, ◌≢◌, ◌⊎◌, ℕ, zero, suc, ◌+◌, ◌%◌, ◌^◌, ◌<◌, ◌≤◌, true, false, Bool, List, [], ◌∷◌, length, sym, refl, ap, ◌∙◌, ⊎_elim, inl, inr, arith, Option, Some, None}
use mathlib.Core.Option.{none, some, some-ne-none, some-injective}
use mathlib.Core.Option as maybe
use mathlib.Core.List.{IsPrefix}
use native.Mathlib.Decide.{ℕ_discrete}
use lib.ListN.{get_elem?}
use Rattle.atomic_table.specs.Table.{State, Allows, Splits, Joins}
use Rattle.fp_gate.specs.declared.booked.Entry.{Entry}
use Rattle.fp_gate.specs.declared.view.Kept.{Kept}
use Rattle.fp_gate.specs.declared.view.View.{View}
use Rattle.fp_gate.specs.Entries.{entries_of}
use Rattle.fp_gate.specs.Views.{spent, waiting, Keeps, IsKeptOnce}
use Rattle.fp_gate.specs.Rule.{Ruled}
use Rattle.fp_gate.specs.Steps.{Known}
use Rattle.fp_gate.proofs.Views.{Has, Keeper, Only, at_less, there_at, none_has}

-- What one view has, where the history is h, `served` turns have ended and `drawn` tickets were drawn in all
pub record ViewOk {T N I : Type 0} (n : N) (h : List (Entry I)) (served drawn all_made : ℕ) (homes : List (maybe.Option (Option T))) (views : List (View N I)) (j : ℕ) (v : View N I) : Type 0 where
  pub sort : (v ≡ spent) ⊎ ((v.name ≡ Some n) × (v.number ≡ j))
  pub ticket : (k : ℕ) → v.ticket ≡ Some k → (served ≤ k) × (k < drawn)
  pub turn : v.in_turn ≡ true → (v.ticket ≡ Some served) × (v.base ≡ h) × (homes ≡ maybe.none ∷ [])
  pub base : IsPrefix v.base h
  pub left : v ≢ spent → entries_of j h ≡ v.left
  pub others : (i : ℕ) (o : Kept N I) → get_elem? v.others i ≡ some o → (entries_of o.number h ≡ o.left) × (get_elem? views o.number ≡ some spent) × (o.name ≡ Some n)
  pub made : 0 < v.made → (j ≡ 0) × (v.made ≡ all_made)
  pub first : j ≡ 0 → v.made ≡ all_made

-- a view that isn't spent has the one name, and its place as its number
pub named_as : {N I : Type 0} (v : View N I) (n : N) (j : ℕ) → (v ≡ spent) ⊎ ((v.name ≡ Some n) × (v.number ≡ j)) → v ≢ spent → (v.name ≡ Some n) × (v.number ≡ j)
named_as v n j (inl gone) live = absurd (live gone)
named_as v n j (inr is) live = is

module _ {T N I : Type 0} (name : T → N) (history : T → List (Entry I)) where
  -- the value is at home, or out with the one view that is in its turn
  abbrev pub Placed : N → List (Entry I) → List (maybe.Option (Option T)) → List (View N I) → Type 0
  Placed n h homes views =
      ((x : T) × (homes ≡ some (Some x) ∷ []) × (name x ≡ n) × (history x ≡ h))
      ⊎ ((homes ≡ maybe.none ∷ []) × ((j : ℕ) × (v : View N I) × (get_elem? views j ≡ some v) × (v.in_turn ≡ true)))

  pub record Working (n : N) (s : State (Option T) (View N I)) : Type 0 where
    pub h : List (Entry I)
    pub served : ℕ
    pub drawn : ℕ
    pub words : s.words ≡ drawn % 2 ^ 64 ∷ served % 2 ^ 64 ∷ []
    pub some_view : 0 < length s.views
    pub few : length s.views < 2 ^ 32
    pub count : served + waiting s.views ≡ drawn
    pub apart : (i j k : ℕ) (v w : View N I) → get_elem? s.views i ≡ some v → get_elem? s.views j ≡ some w → v.ticket ≡ Some k → w.ticket ≡ Some k → i ≡ j
    pub unmade : (k : ℕ) → length s.views ≤ k → entries_of k h ≡ []
    pub each : (j : ℕ) (v : View N I) → get_elem? s.views j ≡ some v → ViewOk n h served drawn (length s.views) s.homes s.views j v
    pub placed : Placed n h s.homes s.views
    pub kept : (k : ℕ) → get_elem? s.views k ≡ some spent → Keeper s.views k
    pub only : Only s.views

module _ {N I : Type 0} where
  -- some view is in its turn, or none is
  turn_or_not : (vs : List (View N I)) → ((j : ℕ) × (v : View N I) × (get_elem? vs j ≡ some v) × (v.in_turn ≡ true)) ⊎ ((j : ℕ) (v : View N I) → get_elem? vs j ≡ some v → v.in_turn ≡ false)
  turn_or_not [] = inr (λ j v at. absurd (some-ne-none v (sym at)))
  turn_or_not (x ∷ xs) = go x.in_turn refl (turn_or_not xs)
    where
      InTurn : Type 0
      InTurn = (j : ℕ) × (v : View N I) × (get_elem? (x ∷ xs) j ≡ some v) × (v.in_turn ≡ true)

      none_here : x.in_turn ≡ false → ((j : ℕ) (v : View N I) → get_elem? xs j ≡ some v → v.in_turn ≡ false) → (j : ℕ) (v : View N I) → get_elem? (x ∷ xs) j ≡ some v → v.in_turn ≡ false
      none_here off more zero v at = ap (λ (u : View N I). u.in_turn) (sym (some-injective x v at)) ∙ off
      none_here off more (suc j) v at = more j v at

      go : (b : Bool) → x.in_turn ≡ b → ((j : ℕ) × (v : View N I) × (get_elem? xs j ≡ some v) × (v.in_turn ≡ true)) ⊎ ((j : ℕ) (v : View N I) → get_elem? xs j ≡ some v → v.in_turn ≡ false)
          → InTurn ⊎ ((j : ℕ) (v : View N I) → get_elem? (x ∷ xs) j ≡ some v → v.in_turn ≡ false)
      go true on more = inl (0, x, refl, on)
      go false off (inl t) = inl (suc t.0, t.1, t.2, t.3)
      go false off (inr none_in) = inr (none_here off none_in)

module _ {T N I : Type 0} (name : T → N) (history : T → List (Entry I)) (n : N) (s : State (Option T) (View N I)) where
  module _ (r : Working name history n s) where
    keeps_it : (j number : ℕ) (v : View N I) (left : List (Entry I)) → get_elem? s.views j ≡ some v → Keeps v number left → entries_of number r.h ≡ left
    keeps_it j number v left at (live, inl own_list) = let ok = r.each j v at in let mine = named_as v n j ok.sort live in
        ap (λ (k : ℕ). entries_of k r.h) (sym own_list.0 ∙ mine.1) ∙ (ok.left live ∙ own_list.1)
    keeps_it j number v left at (live, inr taken) = let q = (r.each j v at).others taken.0 taken.1 taken.2 in ap (λ (k : ℕ). entries_of k r.h) (sym taken.3) ∙ (q.0 ∙ taken.4)

    -- a view that keeps the number of a live view, or that of a spent one
    its_own : (k i : ℕ) (v w : View N I) (left : List (Entry I)) → get_elem? s.views k ≡ some v → v ≢ spent → get_elem? s.views i ≡ some w → Keeps w k left → i ≡ k
    its_own k i v w left at live there (alive, inl own_list) = sym (named_as w n i (r.each i w there).sort alive).1 ∙ own_list.0
    its_own k i v w left at live there (alive, inr taken) = let q = (r.each i w there).others taken.0 taken.1 taken.2 in
        absurd (live (some-injective v spent (sym at ∙ (ap (get_elem? s.views) (sym taken.3) ∙ q.1))))

    its_keeper : (k i : ℕ) (w : View N I) (left : List (Entry I)) (m : Keeper s.views k) → get_elem? s.views k ≡ some spent → get_elem? s.views i ≡ some w → Keeps w k left → i ≡ m.0
    its_keeper k i w left m gone there (alive, inl own_list) = let mine = named_as w n i (r.each i w there).sort alive in
        absurd (alive (some-injective w spent (sym there ∙ (ap (get_elem? s.views) (sym mine.1 ∙ own_list.0) ∙ gone))))
    its_keeper k i w left m gone there (alive, inr taken) = r.only i m.0 k w m.1 there m.4 (taken.0, taken.1, taken.2, taken.3) (m.2, m.3, m.5, m.6)

    kept_once : (k : ℕ) (v : View N I) → get_elem? s.views k ≡ some v → (v ≡ spent) ⊎ ((v.name ≡ Some n) × (v.number ≡ k)) → IsKeptOnce s.views k
    kept_once k v at (inr is) = let live : v ≢ spent = (λ (e : v ≡ spent). let f : Some n ≡ None = sym is.0 ∙ ap (λ (u : View N I). u.name) e in absurd (cc)) in
        (k, v, v.left, at, (live, inl (is.1, refl)), (λ i w left there keeps. its_own k i v w left at live there keeps))
    kept_once k v at (inl gone) = let here : get_elem? s.views k ≡ some spent = at ∙ ap some gone in let m = r.kept k here in
        (m.0, m.1, m.3.left, m.4, ((λ e. none_has m.1.others k (ap (λ (u : View N I). u.others) e) (m.2, m.3, m.5, m.6)), inr (m.2, m.3, m.5, m.6, refl)), (λ i w left there keeps. its_keeper k i w left m here there keeps))

    zero_if : (a : ℕ) → (0 < a → ⊥) → a ≡ 0
    zero_if zero f = refl
    zero_if (suc a) f = absurd (f (omega arith))

    pub ruled : Ruled name history n s
    ruled = record {
      past = r.h;
      served = r.served;
      drawn = r.drawn;
      words = r.words;
      count = r.count;
      out = λ j k v at has. (r.each j v at).ticket k has;
      apart = r.apart;
      named = λ j v at. (r.each j v at).sort;
      made = let t = there_at s.views 0 r.some_view in (t.0, t.1, (r.each 0 t.0 t.1).first refl);
      made_none = λ j v at later. zero_if v.made (λ p. later ((r.each j v at).made p).0);
      few = r.few;
      kept = λ k below. let t = there_at s.views k below in kept_once k t.0 t.1 (r.each k t.0 t.1).sort;
      joined = λ j i v o at has. let q = (r.each j v at).others i o has in (q.1, q.2);
      one_turn = λ i j v w a b p q. r.apart i j r.served v w a b ((r.each i v a).turn p).0 ((r.each j w b).turn q).0;
      turn = λ j v at on. ((r.each j v at).turn on).0;
      home = λ none_in. ⊎_elim (λ p. p) (λ t. let f : true ≡ false = sym t.1.3 ∙ none_in t.1.0 t.1.1 t.1.2 in absurd (cc)) r.placed;
      away = λ j v at on. let q = (r.each j v at).turn on in (q.2, q.1);
      lists = keeps_it;
      bases = λ j v at. (r.each j v at).base;
      unmade = r.unmade;
    }

  module _ (r : Ruled name history n s) where
    taken_in : (j i : ℕ) (v : View N I) (o : Kept N I) → get_elem? s.views j ≡ some v → get_elem? v.others i ≡ some o → entries_of o.number r.past ≡ o.left
    taken_in j i v o at has = r.lists j o.number v o.left at ((λ e. none_has v.others o.number (ap (λ (u : View N I). u.others) e) (i, o, has, refl)), inr (i, o, has, refl, refl))

    in_first : (j : ℕ) (v : View N I) → get_elem? s.views j ≡ some v → j ≡ 0 → v.made ≡ length s.views
    in_first j v at e = let t = r.made in ap (λ (u : View N I). u.made) (some-injective v t.0 (sym at ∙ (ap (get_elem? s.views) e ∙ t.1))) ∙ t.2

    only_first : (j : ℕ) (v : View N I) → get_elem? s.views j ≡ some v → 0 < v.made → Dec (j ≡ 0) → (j ≡ 0) × (v.made ≡ length s.views)
    only_first j v at p (yes e) = (e, in_first j v at e)
    only_first j v at p (no ne) = absurd (omega (arith, p, r.made_none j v at ne))

    place : ((j : ℕ) × (v : View N I) × (get_elem? s.views j ≡ some v) × (v.in_turn ≡ true)) ⊎ ((j : ℕ) (v : View N I) → get_elem? s.views j ≡ some v → v.in_turn ≡ false) → Placed name history n r.past s.homes s.views
    place (inl t) = inr ((r.away t.0 t.1 t.2 t.3).0, t)
    place (inr none_in) = inl (r.home none_in)

    keeper : (k : ℕ) → get_elem? s.views k ≡ some spent → IsKeptOnce s.views k → Keeper s.views k
    keeper k gone (j, v, left, at, (live, inl own_list), alone) = let mine = named_as v n j (r.named j v at) live in
        absurd (live (some-injective v spent (sym at ∙ (ap (get_elem? s.views) (sym mine.1 ∙ own_list.0) ∙ gone))))
    keeper k gone (j, v, left, at, (live, inr taken), alone) = (j, v, taken.0, taken.1, at, taken.2, taken.3)

    only_one : Only s.views
    only_one i j k v w a b p q =
        let gone : get_elem? s.views k ≡ some spent = ap (get_elem? s.views) (sym p.3) ∙ (r.joined i p.0 v p.1 a p.2).0 in let m = r.kept k (at_less s.views k spent gone) in
        let live : (u : View N I) → Has u.others k → u ≢ spent = (λ (u : View N I) (h : Has u.others k) (e : u ≡ spent). none_has u.others k (ap (λ (z : View N I). z.others) e) h) in
        m.5 i v p.1.left a (live v p, inr (p.0, p.1, p.2, p.3, refl)) ∙ sym (m.5 j w q.1.left b (live w q, inr (q.0, q.1, q.2, q.3, refl)))

    pub working : Working name history n s
    working = record {
      h = r.past;
      served = r.served;
      drawn = r.drawn;
      words = r.words;
      some_view = at_less s.views 0 r.made.0 r.made.1;
      few = r.few;
      count = r.count;
      apart = r.apart;
      unmade = r.unmade;
      each = λ j v at. record {
        sort = r.named j v at;
        ticket = λ k has. r.out j k v at has;
        turn = λ on. let q = r.away j v at on in (r.turn j v at on, q.1, q.0);
        base = r.bases j v at;
        left = λ live. let mine = named_as v n j (r.named j v at) live in r.lists j j v v.left at (live, inl (mine.1, refl));
        others = λ i o has. let q = r.joined j i v o at has in (taken_in j i v o at has, q.0, q.1);
        made = λ p. only_first j v at p (ℕ_discrete j 0);
        first = λ e. in_first j v at e;
      };
      placed = place (turn_or_not s.views);
      kept = λ k gone. keeper k gone (r.kept k (at_less s.views k spent gone));
      only = only_one;
    }

module _ {T N I : Type 0} (name : T → N) (history : T → List (Entry I)) (n : N) where
  pub allows : (slots id : ℕ) (me : Known T N I) (i : ℕ) (f : ℕ → ℕ) (then : ℕ → Known T N I → Type 0) → Allows (Working name history n) slots id me i f then → Allows (Ruled name history n) slots id me i f then
  allows slots id me i f then step s r deep at small = let t = step s (working name history n s r) deep at small in (t.0, t.1, t.2, ruled name history n _ t.3, t.4)

  pub splits_too : (id : ℕ) (v left right : View N I) → Splits (Working name history n) id v left right → Splits (Ruled name history n) id v left right
  splits_too id v left right step s r at = ruled name history n _ (step s (working name history n s r) at)

  pub joins_too : (id : ℕ) (v : View N I) (other : ℕ) (w both gone : View N I) → Joins (Working name history n) id v other w both gone → Joins (Ruled name history n) id v other w both gone
  joins_too id v other w both gone step s r at apart at' = ruled name history n _ (step s (working name history n s r) at apart at')
