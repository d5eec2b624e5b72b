-- What a seat at the table knows, and which lists it keeps.
use Rattle.std.specs.Prelude.{◌≡◌, ◌≢◌, ◌⊎◌, ℕ, ◌+◌, false, List, [], ◌∷◌, Option, Some, None}
use mathlib.Core.Option.{some}
use lib.ListN.{get_elem?}
use Rattle.fp_gate.specs.declared.booked.Entry.{Entry}
use Rattle.fp_gate.specs.declared.view.Kept.{Kept}
use Rattle.fp_gate.specs.declared.view.View.{View}

module _ {N I : Type 0} where
  -- a view of the lock with this name, as it begins: it has left nothing and seen nothing
  abbrev pub new_view : Option N → ℕ → ℕ → View N I
  new_view name number made = record { name = name; number = number; left = []; others = []; ticket = None; in_turn = false; turns = 0; base = []; made = made }

  -- the view of the first pass, before any other is made
  abbrev pub first_view : N → View N I
  first_view name = new_view (Some name) 0 1

  -- a view that was joined into another: no name, no ticket, an empty base and no lists
  abbrev pub spent : View N I
  spent = new_view None 0 0

-- 1 where there is a ticket
abbrev pub has_ticket : Option ℕ → ℕ
has_ticket None = 0
has_ticket (Some _) = 1

module _ {N I : Type 0} where
  -- how many views have a ticket
  abbrev pub waiting : List (View N I) → ℕ
  waiting [] = 0
  waiting (v ∷ vs) = has_ticket v.ticket + waiting vs

  -- the view isn't spent, and keeps this list under this number: its own, or one that it took in
  abbrev pub Keeps : View N I → ℕ → List (Entry I) → Type 0
  Keeps v number left = (v ≢ spent) × (((v.number ≡ number) × (v.left ≡ left)) ⊎ ((i : ℕ) × (o : Kept N I) × (get_elem? v.others i ≡ some o) × (o.number ≡ number) × (o.left ≡ left)))

  -- one view keeps the number, and no other does
  abbrev pub IsKeptOnce : List (View N I) → ℕ → Type 0
  IsKeptOnce views number =
      (j : ℕ) × (v : View N I) × (left : List (Entry I)) × (get_elem? views j ≡ some v) × Keeps v number left
      × ((i : ℕ) (w : View N I) (other : List (Entry I)) → get_elem? views i ≡ some w → Keeps w number other → i ≡ j)
