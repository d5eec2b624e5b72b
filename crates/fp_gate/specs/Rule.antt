-- The rule of the table: what holds between any two steps.
use Rattle.std.specs.Prelude.{◌≡◌, ◌≢◌, ◌⊎◌, ℕ, ◌+◌, ◌%◌, ◌^◌, ◌<◌, ◌≤◌, true, false, List, [], ◌∷◌, length, Option, Some}
use mathlib.Core.Option.{some, none}
use mathlib.Core.List.{IsPrefix}
use lib.ListN.{get_elem?}
use Rattle.atomic_table.specs.Table.{State}
use Rattle.fp_gate.specs.declared.booked.Entry.{Entry}
use Rattle.fp_gate.specs.declared.view.Kept.{Kept}
use Rattle.fp_gate.specs.declared.view.View.{View}
use Rattle.fp_gate.specs.Entries.{entries_of}
use Rattle.fp_gate.specs.Views.{spent, waiting, Keeps, IsKeptOnce}

module _ {T N I : Type 0} (name : T → N) (history : T → List (Entry I)) where
  pub record Ruled (one_name : N) (s : State (Option T) (View N I)) : Type 0 where
    -- the history that the passes share
    pub past : List (Entry I)
    -- how many turns have ended, counted without end
    pub served : ℕ
    -- how many tickets were drawn, counted without end
    pub drawn : ℕ
    -- the word 0 is the number of tickets drawn, and the word 1 the number of turns ended, both modulo 2 ^ 64
    pub words : s.words ≡ drawn % 2 ^ 64 ∷ served % 2 ^ 64 ∷ []
    -- as many views have a ticket as were drawn and not yet served
    pub count : served + waiting s.views ≡ drawn
    -- each ticket out was drawn, and not yet served
    pub out : (j k : ℕ) (v : View N I) → get_elem? s.views j ≡ some v → v.ticket ≡ Some k → (served ≤ k) × (k < drawn)
    -- no two views have one ticket
    pub apart : (i j k : ℕ) (v w : View N I) → get_elem? s.views i ≡ some v → get_elem? s.views j ≡ some w → v.ticket ≡ Some k → w.ticket ≡ Some k → i ≡ j
    -- each view is spent, or has the one name, and its place as its own number
    pub named : (j : ℕ) (v : View N I) → get_elem? s.views j ≡ some v → (v ≡ spent) ⊎ ((v.name ≡ Some one_name) × (v.number ≡ j))
    -- the first view has the count of the numbers made, and that is the number of all views
    pub made : (v : View N I) × (get_elem? s.views 0 ≡ some v) × (v.made ≡ length s.views)
    -- no other view has made one
    pub made_none : (j : ℕ) (v : View N I) → get_elem? s.views j ≡ some v → j ≢ 0 → v.made ≡ 0
    -- the number of all views is at most 2 ^ 32 - 1
    pub few : length s.views < 2 ^ 32
    -- each number made is kept by exactly one view that isn't spent
    pub kept : (number : ℕ) → number < length s.views → IsKeptOnce s.views number
    -- what a view keeps beside its own list is the list of a view that is spent, and that had the one name
    pub joined : (j i : ℕ) (v : View N I) (o : Kept N I) → get_elem? s.views j ≡ some v → get_elem? v.others i ≡ some o → (get_elem? s.views o.number ≡ some spent) × (o.name ≡ Some one_name)
    -- at most one view is in its turn
    pub one_turn : (i j : ℕ) (v w : View N I) → get_elem? s.views i ≡ some v → get_elem? s.views j ≡ some w → v.in_turn ≡ true → w.in_turn ≡ true → i ≡ j
    -- the ticket of the view in its turn is the one that is served
    pub turn : (j : ℕ) (v : View N I) → get_elem? s.views j ≡ some v → v.in_turn ≡ true → v.ticket ≡ Some served
    -- where no view is in its turn, the slot is home, its value has the one name, and the history is the value's
    pub home : ((j : ℕ) (v : View N I) → get_elem? s.views j ≡ some v → v.in_turn ≡ false) → (x : T) × (s.homes ≡ some (Some x) ∷ []) × (name x ≡ one_name) × (history x ≡ past)
    -- where a view is in its turn, the slot isn't home, and the history is the view's base
    pub away : (j : ℕ) (v : View N I) → get_elem? s.views j ≡ some v → v.in_turn ≡ true → (s.homes ≡ none ∷ []) × (v.base ≡ past)
    -- the entries of each number in the history are that number's list
    pub lists : (j number : ℕ) (v : View N I) (left : List (Entry I)) → get_elem? s.views j ≡ some v → Keeps v number left → entries_of number past ≡ left
    -- every view's base is a prefix of the history
    pub bases : (j : ℕ) (v : View N I) → get_elem? s.views j ≡ some v → IsPrefix v.base past
    -- numbers not yet made have no entry
    pub unmade : (number : ℕ) → length s.views ≤ number → entries_of number past ≡ []
