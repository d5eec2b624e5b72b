-- What each kind of step does to the view of the seat that makes it.
use Rattle.std.specs.Prelude.{◌≡◌, ◌≢◌, ℕ, ◌+◌, ◌%◌, ◌^◌, true, false, List, [], ◌∷◌, ◌++◌, Option, Some, None}
use mathlib.Core.List.{IsPrefix}
use Rattle.atomic_table.specs.Table.{Me, Step}
use Rattle.fp_gate.specs.declared.booked.Entry.{Entry}
use Rattle.fp_gate.specs.declared.view.Kept.{Kept}
use Rattle.fp_gate.specs.declared.view.View.{View}
use Rattle.fp_gate.specs.Entries.{entries_of}
use Rattle.fp_gate.specs.Views.{new_view}

-- a seat's view, and the slot that it has with its value, where it has it
abbrev pub Known : Type 0 → Type 0 → Type 0 → Type 0
Known T N I = Me (Option T) (View N I)

module _ {T N I : Type 0} where
  -- draw: the view gets a ticket, of which the number found is the last 64 bits
  abbrev pub drew : Step (Option T) → Known T N I → ℕ → Known T N I → Type 0
  drew st m found m' = (k : ℕ) × (m' ≡ (record m.0 { ticket = Some k }, m.1)) × (found ≡ k % 2 ^ 64)

  -- the view as its turn begins with the value x
  abbrev pub begun : (T → List (Entry I)) → View N I → T → View N I
  begun history v x = record v { in_turn = true; turns = v.turns + 1; base = history x }

  -- the value has the view's name, in its history the entries of this pass are those that it left, and the history goes on from the one that it last saw
  abbrev pub Meets : (T → N) → (T → List (Entry I)) → View N I → T → Type 0
  Meets name history v x = (v.name ≡ Some (name x)) × (entries_of v.number (history x) ≡ v.left) × IsPrefix v.base (history x)

  -- look: where the number found is the ticket's the turn begins, and the seat has the slot with the value; else nothing changes
  abbrev pub looked : (T → N) → (T → List (Entry I)) → Step (Option T) → Known T N I → ℕ → Known T N I → Type 0
  looked name history st m found m' = (k : ℕ) → m.0.ticket ≡ Some k
      → (found ≡ k % 2 ^ 64 → (x : T) × (m' ≡ (begun history m.0 x, (0, Some x) ∷ m.1)) × Meets name history m.0 x) × (found ≢ k % 2 ^ 64 → m' ≡ m)

  -- the seat has a ticket of which this is the last 64 bits, and waits for its turn
  abbrev pub Waits : ℕ → Known T N I → Type 0
  Waits ticket m = ((k : ℕ) × (m.0.ticket ≡ Some k) × (ticket ≡ k % 2 ^ 64)) × (m.0.in_turn ≡ false) × (m.1 ≡ [])

  -- the turn of the seat has begun, and it has the slot with the value
  abbrev pub HasTurn : (T → N) → (T → List (Entry I)) → Known T N I → Known T N I → Type 0
  HasTurn name history m m' = (x : T) × (m' ≡ (begun history m.0 x, (0, Some x) ∷ [])) × Meets name history m.0 x

  -- the view after the turn, where the pass leaves the value x
  abbrev pub ended : (T → List (Entry I)) → View N I → T → View N I
  ended history v x = record v { left = entries_of v.number (history x); ticket = None; in_turn = false }

  -- advance: the turn ends, and the slot goes home with the value
  abbrev pub advanced : (T → List (Entry I)) → Step (Option T) → Known T N I → ℕ → Known T N I → Type 0
  advanced history st m found m' = (x : T) → m.1 ≡ (0, Some x) ∷ [] → (m' ≡ (ended history m.0 x, [])) × (entries_of m.0.number m.0.base ≡ m.0.left)

module _ {N I : Type 0} where
  -- split: the first view has made one number more
  abbrev pub made_one : View N I → View N I
  made_one v = record v { made = v.made + 1 }

  -- split: the new view has that number
  abbrev pub newcomer : View N I → View N I
  newcomer v = new_view v.name v.made 0

  -- what a view's own pass left
  abbrev pub own : View N I → Kept N I
  own v = record { name = v.name; number = v.number; left = v.left }

  -- join: the one view keeps the lists of both
  abbrev pub both : View N I → View N I → View N I
  both v w = record v { others = own w ∷ (w.others ++ v.others) }
