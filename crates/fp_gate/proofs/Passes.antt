-- Rows of passes: what holds of each by its place, and the value of the last table.
use Rattle.std.proofs.Common.{◌≡◌, ◌≢◌, ℕ, zero, suc, ◌+◌, ◌<◌, ◌≤◌, List, [], ◌∷◌, ◌++◌, map, length, get_or, sym, refl, ap, ◌∙◌, subst, arith, Option, Some, None, append-nil}
use mathlib.Core.Logic.{dite}
use mathlib.Core.Option.{some, some-injective}
use native.Mathlib.Decide.{ℕ_discrete}
use lib.ListN.{get_elem?}
use Rattle.atomic_table.specs.declared.shared.Seat.{Seat}
use Rattle.atomic_table.specs.Seated.{TableId}
use Rattle.atomic_table.specs.Table.{Final, Seen}
use Rattle.fp_gate.specs.declared.booked.Entry.{Entry}
use Rattle.fp_gate.specs.declared.view.Kept.{Kept}
use Rattle.fp_gate.specs.declared.view.View.{View}
use Rattle.fp_gate.specs.Entries.{entries_of}
use Rattle.fp_gate.specs.Views.{new_view}
use Rattle.fp_gate.specs.Rule.{Ruled}
use Rattle.fp_gate.specs.Steps.{Known, own, both}
use Rattle.fp_gate.specs.Passes.{view, made_at, EachAt, IsPass, IsIdle, IsNew, Closes}
use Rattle.fp_gate.proofs.Ends.{KeepsAll, HasTable, closes}

module _ {A : Type 0} where
  -- P of each element and its place, counted from k
  abbrev pub AllFrom : (ℕ → A → Type 0) → ℕ → List A → Type 0
  AllFrom P k [] = Unit {0}
  AllFrom P k (x ∷ xs) = P k x × AllFrom P (suc k) xs

  pub AllFrom-snoc : (P : ℕ → A → Type 0) (k : ℕ) (xs : List A) (a : A) → AllFrom P k xs → P (k + length xs) a → AllFrom P k (xs ++ a ∷ [])
  AllFrom-snoc P k [] a h p = let e : k + 0 ≡ k = omega arith in (subst (λ (i : ℕ). P i a) e p, tt)
  AllFrom-snoc P k (x ∷ xs) a h p = let e : k + suc (length xs) ≡ suc k + length xs = omega arith in (h.0, AllFrom-snoc P (suc k) xs a h.1 (subst (λ (i : ℕ). P i a) e p))

  pub AllFrom-map : (P Q : ℕ → A → Type 0) (k : ℕ) (xs : List A) → ((i : ℕ) (x : A) → k ≤ i → P i x → Q i x) → AllFrom P k xs → AllFrom Q k xs
  AllFrom-map P Q k [] f h = tt
  AllFrom-map P Q k (x ∷ xs) f h = (f k x (omega arith) h.0, AllFrom-map P Q (suc k) xs (λ i y le. f i y (omega arith)) h.1)

  pub AllFrom-at : (P : ℕ → A → Type 0) (k : ℕ) (xs : List A) (a : A) (ys : List A) → AllFrom P k (xs ++ a ∷ ys) → P (k + length xs) a
  AllFrom-at P k [] a ys h = let e : k ≡ k + 0 = omega arith in subst (λ (i : ℕ). P i a) e h.0
  AllFrom-at P k (x ∷ xs) a ys h = let e : suc k + length xs ≡ k + suc (length xs) = omega arith in subst (λ (i : ℕ). P i a) e (AllFrom-at P (suc k) xs a ys h.1)

  pub AllFrom-of : (P : ℕ → A → Type 0) (k : ℕ) (xs : List A) → ((i : ℕ) (d : A) → i < length xs → P (k + i) (get_or xs i d)) → AllFrom P k xs
  AllFrom-of P k [] h = tt
  AllFrom-of P k (x ∷ xs) h = let e : k + 0 ≡ k = omega arith in (
    subst (λ (i : ℕ). P i x) e (h 0 x (omega arith)),
    AllFrom-of P (suc k) xs (λ i d lt. let e : k + suc i ≡ suc k + i = omega arith in subst (λ (j : ℕ). P j (get_or xs i d)) e (h (suc i) d (omega arith))),
  )

  pub AllFrom-index : (P : ℕ → A → Type 0) (k : ℕ) (xs : List A) → AllFrom P k xs → (i : ℕ) (d : A) → i < length xs → P (k + i) (get_or xs i d)
  AllFrom-index P k [] h i d lt = absurd (omega arith)
  AllFrom-index P k (x ∷ xs) h zero d lt = let e : k ≡ k + 0 = omega arith in subst (λ (i : ℕ). P i x) e h.0
  AllFrom-index P k (x ∷ xs) h (suc i) d lt = let e : suc k + i ≡ k + suc i = omega arith in subst (λ (j : ℕ). P j (get_or xs i d)) e (AllFrom-index P (suc k) xs h.1 i d (omega arith))

  pub each_of : (P : ℕ → A → Type 0) (xs : List A) → AllFrom P 0 xs → EachAt P xs
  each_of P xs h i d lt = let e : 0 + i ≡ i = omega arith in subst (λ (j : ℕ). P j (get_or xs i d)) e (AllFrom-index P 0 xs h i d lt)

  pub all_of : (P : ℕ → A → Type 0) (xs : List A) → EachAt P xs → AllFrom P 0 xs
  all_of P xs h = AllFrom-of P 0 xs (λ i d lt. let e : i ≡ 0 + i = omega arith in subst (λ (j : ℕ). P j (get_or xs i d)) e (h i d lt))

pub made_later : (seats k : ℕ) → 0 < k → made_at seats k ≡ 0
made_later seats zero h = absurd (omega arith)
made_later seats (suc k) h = refl

module _ {A T N I : Type 0} (f : A → Seat (Option T) (View N I)) (id : TableId) (seats : ℕ) where
  abbrev pub Given : ℕ → A → Type 0
  Given i q = IsPass id seats i (f q) × IsIdle (f q)

  abbrev pub owns : List A → List (Kept N I)
  owns = map (λ q. own (view (f q)))

  number_at : (xs : List A) (j k : ℕ) → AllFrom Given j xs → j ≤ k → k < j + length xs → (i : ℕ) × (o : Kept N I) × (get_elem? (owns xs) i ≡ some o) × (o.number ≡ k)
  number_at [] j k h le lt = absurd (omega arith)
  number_at (x ∷ xs) j k h le lt = dite (ℕ_discrete k j) (λ e. (0, own (view (f x)), refl, h.0.0.1 ∙ sym e))
      (λ ne. let t = number_at xs (suc j) k h.1 (omega (arith, ne)) (omega arith) in (suc t.0, t.1, t.2, t.3))

  pub keeps_all : (p : A) (after : List A) → AllFrom Given 0 (p ∷ after) → length (p ∷ after) ≡ seats → KeepsAll (record (view (f p)) { others = owns after })
  keeps_all p after h long k pos below = let e : (view (f p)).made ≡ seats = h.0.0.2 in number_at after 1 k h.1 (omega arith) (omega (arith, e, below))

module _ {A T N I : Type 0} (f : A → Seat (Option T) (View N I)) (name : T → N) (history : T → List (Entry I)) (x : T) where
  abbrev Done : ℕ → A → Type 0
  Done i q = Closes name history x i (f q)

  done_after : (xs : List A) (k : ℕ) → AllFrom (λ i q. (view (f q)).number ≡ i) k xs
      → ((i : ℕ) (o : Kept N I) → get_elem? (map (λ q. own (view (f q))) xs) i ≡ some o → (entries_of o.number (history x) ≡ o.left) × (o.name ≡ Some (name x))) → AllFrom Done k xs
  done_after [] k h g = tt
  done_after (y ∷ ys) k h g = let t = g 0 (own (view (f y))) refl in ((t.1, ap (λ (i : ℕ). entries_of i (history x)) (sym h.0) ∙ t.0), done_after ys (suc k) h.1 (λ i. g (suc i)))

  pub all_done : (id : TableId) (seats : ℕ) (p : A) (after : List A) (xs : List (Option T)) → AllFrom (Given f id seats) 0 (p ∷ after)
      → (view (f p)).name ≡ Some (name x) → entries_of (view (f p)).number (history x) ≡ (view (f p)).left
      → ((i : ℕ) (o : Kept N I) → get_elem? (owns f id seats after) i ≡ some o → (entries_of o.number (history x) ≡ o.left) × (o.name ≡ Some (name x))) → AllFrom Done 0 (p ∷ after)
  all_done id seats p after xs h named mine others = (
    (named, ap (λ (i : ℕ). entries_of i (history x)) (sym h.0.0.1) ∙ mine),
    done_after after 1 (AllFrom-map (Given f id seats) (λ i q. (view (f q)).number ≡ i) 1 after (λ i q le g. g.0.1) h.1) others,
  )

module _ {T N I : Type 0} where
  pub new_pass : (s : Seat (Option T) (View N I)) (n : N) (made k seats : ℕ) (id : TableId) → s.table_id ≡ id → s.me ≡ (new_view (Some n) k made, []) → made ≡ made_at seats k → IsPass id seats k s × IsIdle s × IsNew n s
  new_pass s n made k seats id of is so = (
    (of, ap (λ m. m.0.number) is, ap (λ m. m.0.made) is ∙ so),
    (ap (λ m. m.0.ticket) is, ap (λ m. m.0.in_turn) is, ap (λ m. m.1) is),
    (ap (λ m. m.0.name) is, ap (λ m. m.0.left) is, ap (λ m. m.0.base) is, ap (λ m. m.0.turns) is),
  )

  -- a view that has taken in no other, and no slot
  pub alone_is : (me : Known T N I) → me.0.others ≡ [] → me.1 ≡ [] → me ≡ (record me.0 { others = [] }, [])
  alone_is me a b = λ i. (record me.0 { others = a i }, b i)

  pub joined_is : (me me' : Known T N I) (p : View N I) (l : List (Kept N I)) → me.0.others ≡ [] → me.1 ≡ [] → me' ≡ (record p { others = l }, []) → ◌≡◌ {A = Known T N I} (both me.0 me'.0, me.1) (record me.0 { others = own p ∷ l }, [])
  joined_is me me' p l a b e = ap (λ (m : Known T N I). (both me.0 m.0, me.1)) e ∙ ((λ i. (record me.0 { others = own p ∷ (l ++ a i) }, b i)) ∙ (λ i. (record me.0 { others = own p ∷ append-nil l i }, [])))

module _ {A T N I : Type 0} (f : A → Seat (Option T) (View N I)) (name : T → N) (history : T → List (Entry I)) where
  -- the last table, with the view that keeps all lists
  pub at_end : (n : N) (id : ℕ) (table : TableId) (seats : ℕ) (me : Known T N I) (p : A) (after : List A) (ws : List ℕ) (xs : List (Option T)) → AllFrom (Given f table seats) 0 (p ∷ after) → length (p ∷ after) ≡ seats → 0 < seats
      → (view (f p)).name ≢ None → me ≡ (record (view (f p)) { others = owns f table seats after }, []) → Final (Seen (Ruled name history n) id me.0) ws xs
      → (x : T) × (get_elem? xs 0 ≡ some (Some x)) × AllFrom (λ i q. Closes name history x i (f q)) 0 (p ∷ after)
  at_end n id table seats me p after ws xs h long some_seats live is f' =
      let v : View N I = record (view (f p)) { others = owns f table seats after } in let made : (view (f p)).made ≡ seats = h.0.0.2 in
      let last : Final (Seen (Ruled name history n) id v) ws xs = subst (λ (m : Known T N I). Final (Seen (Ruled name history n) id m.0) ws xs) is f' in
      let found : HasTable name history v xs = closes name history n id v ws xs live h.0.1.1 (omega (arith, made, some_seats)) (keeps_all f table seats p after h long) last in
      (found.0, found.1, all_done f name history found.0 table seats p after xs h found.2 found.3 found.4)

pub same_slot : {A : Type 0} (xs : List A) (i : ℕ) (a b : A) → get_elem? xs i ≡ some a → get_elem? xs i ≡ some b → a ≡ b
same_slot xs i a b p q = some-injective a b (sym p ∙ q)
