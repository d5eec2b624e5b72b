-- What is known of the cells whose passes have all come back.
use Rattle.std.specs.Prelude.{◌≡◌, ℕ, List, map, length, Some, slice_get}
use Rattle.fp_tables.specs.Lookup.{Described}
use Rattle.fp_tables.specs.declared.program.Program.{Program}
use Rattle.fp_events.specs.declared.event.Entry.{Entry}
use Rattle.fp_events.specs.Run.{IsKept}
use Rattle.fp_run_laws.specs.Seen.{IsTimed, entries, seen_by}
use Rattle.fp_gate.specs.declared.booked.Booked.{Ghosts}
use Rattle.fp_gate.specs.declared.lock.Pass.{Pass}
use Rattle.fp_gate.specs.declared.lock.TicketLock.{TicketLock}
use Rattle.fp_gate.specs.Locks.{id_of, seats_of, IsPass, IsIdle}
use Rattle.fp_gate.specs.Passes.{EachAt}
use Rattle.fp_plant.specs.declared.held.CellName.{CellName}
use Rattle.fp_plant.specs.Hands.{passing}
use Rattle.fp_plant.specs.Noted.{noted}
use Rattle.fp_plant.specs.Planted.{Handed, Passing}

-- the history of an instance, whose entries stand with the stamps that were seen: of each actor it has what the actor's pass left
pub record WasHeld (t : Described) (program : Program) (i : ℕ) (passes : List Passing) (history : List Entry) (ps : List (Entry × ℕ)) : Type 0 where
  pub history_is : entries ps ≡ history
  pub timed : IsTimed ps
  pub kept : IsKept t program i history
  pub left : (a : ℕ) (q : Passing) → slice_get passes a ≡ Some q → map noted (seen_by a ps) ≡ q.view.left

-- of the instance that a pass names
abbrev pub WasClosed : List Passing → List Entry → Type 0
WasClosed passes history =
    (a : ℕ) (q : Passing) (name : CellName) → slice_get passes a ≡ Some q → q.view.name ≡ Some name
    → (ps : List (Entry × ℕ)) × WasHeld name.tables name.program name.instance passes history ps

module _ {T : Type 0} {g : Ghosts T CellName Entry} where
  -- a pass of this hand, by its place
  abbrev pub IsOf : Handed → ℕ → Pass T CellName Entry g → Type 0
  IsOf h k p = IsIdle p × (slice_get h.passes k ≡ Some (passing p))

  -- they are all passes of the lock, and none is inside
  pub record MayClose (lock : TicketLock T CellName Entry) (passes : List (Pass T CellName Entry g)) : Type 0 where
    pub count : length passes ≡ seats_of lock
    pub each : EachAt (λ k p. IsPass (id_of lock) (seats_of lock) k p × IsIdle p) passes
