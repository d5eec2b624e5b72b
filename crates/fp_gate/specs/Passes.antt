-- The words of the contracts: what is said of a pass and its value.
use Rattle.std.specs.Prelude.{◌≡◌, ◌⊎◌, ℕ, zero, suc, ◌+◌, ◌<◌, true, false, List, [], ◌∷◌, ◌++◌, length, slice_index_or, Option, Some, None}
use Rattle.atomic_table.specs.declared.shared.Seat.{Seat}
use Rattle.atomic_table.specs.Seated.{TableId}
use Rattle.fp_gate.specs.declared.booked.Entry.{Entry}
use Rattle.fp_gate.specs.declared.view.View.{View}
use Rattle.fp_gate.specs.Entries.{entries_of}

module _ {T N I : Type 0} where
  abbrev pub view : Seat (Option T) (View N I) → View N I
  view seat = seat.me.0

  -- the same pass of the same lock
  abbrev pub IsSamePass : Seat (Option T) (View N I) → Seat (Option T) (View N I) → Type 0
  IsSamePass s t = (t.table_id ≡ s.table_id) × ((view t).name ≡ (view s).name) × ((view t).number ≡ (view s).number) × ((view t).made ≡ (view s).made)

  -- outside, with no ticket
  abbrev pub IsIdle : Seat (Option T) (View N I) → Type 0
  IsIdle s = ((view s).ticket ≡ None) × ((view s).in_turn ≡ false) × (s.me.1 ≡ [])

  -- inside: the value is with the caller
  abbrev pub HasEntered : Seat (Option T) (View N I) → Type 0
  HasEntered s = ((view s).in_turn ≡ true) × (s.me.1 ≡ (0, None) ∷ [])

  -- one more turn has begun, the history last seen is the value's, and the list of what was left stays
  abbrev pub Begins : (T → List (Entry I)) → View N I → T → View N I → Type 0
  Begins history v x w = (w.turns ≡ v.turns + 1) × (w.base ≡ history x) × (w.left ≡ v.left)

module _ {N I : Type 0} where
  -- this history is the one entered with, or that one followed by one entry of this pass
  abbrev pub MayLeave : View N I → List (Entry I) → Type 0
  MayLeave v h = (h ≡ v.base) ⊎ ((e : Entry I) × (e.by ≡ v.number) × (h ≡ v.base ++ e ∷ []))

  -- the count of turns and the history last seen stay, and the pass's list gets what the history has got
  abbrev pub Ends : View N I → List (Entry I) → View N I → Type 0
  Ends v h w = (w.turns ≡ v.turns) × (w.base ≡ v.base) × ((es : List (Entry I)) → h ≡ v.base ++ es → w.left ≡ v.left ++ es)

-- how many numbers the pass with this number has made, of a lock with so many seats
abbrev pub made_at : ℕ → ℕ → ℕ
made_at seats zero = seats
made_at seats (suc number) = 0

-- P of each element and its place
abbrev pub EachAt : {A : Type 0} → (ℕ → A → Type 0) → List A → Type 0
EachAt {A} P xs = (i : ℕ) (d : A) → i < length xs → P i (slice_index_or xs i d)

module _ {T N I : Type 0} where
  -- the pass with this number of the lock with this table, which has so many passes
  abbrev pub IsPass : TableId → ℕ → ℕ → Seat (Option T) (View N I) → Type 0
  IsPass table seats number s = (s.table_id ≡ table) × ((view s).number ≡ number) × ((view s).made ≡ made_at seats number)

  -- a pass that has never entered, of a lock with this name
  abbrev pub IsNew : N → Seat (Option T) (View N I) → Type 0
  IsNew n s = ((view s).name ≡ Some n) × ((view s).left ≡ []) × ((view s).base ≡ []) × ((view s).turns ≡ 0)

  -- the value x has the pass's name, and its entries of the pass are those that the pass left
  abbrev pub Closes : (T → N) → (T → List (Entry I)) → T → ℕ → Seat (Option T) (View N I) → Type 0
  Closes name history x number s = ((view s).name ≡ Some (name x)) × (entries_of number (history x) ≡ (view s).left)
