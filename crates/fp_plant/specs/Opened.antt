-- How the passes of the locks are dealt out to the hands.
use Rattle.std.specs.Prelude.{◌≡◌, ℕ, List, [], map, length, Some, false, slice_get}
use Rattle.fp_tables.specs.Lookup.{Described, placed}
use Rattle.fp_tables.specs.declared.program.Program.{Program}
use Rattle.fp_events.specs.declared.event.Entry.{Entry}
use Rattle.fp_events.specs.Actor.{opened_actor}
use Rattle.fp_events.specs.Fits.{actor_count}
use Rattle.fp_gate.specs.declared.booked.Booked.{Ghosts}
use Rattle.fp_gate.specs.declared.lock.Pass.{Pass}
use Rattle.fp_gate.specs.Locks.{LockId, IsPass, IsIdle, IsNew}
use Rattle.fp_plant.specs.declared.held.CellName.{CellName}
use Rattle.fp_plant.specs.Hands.{passing}
use Rattle.fp_plant.specs.Planted.{Handed}
use Rattle.fp_plant.specs.Rows.{EachItem, HasShape}

module _ {T : Type 0} {g : Ghosts T CellName Entry} (t : Described) (program : Program) where
  -- the pass of this number, of the lock over the cell of an instance, which has never entered
  pub record IsNewPass (lock : LockId) (i number : ℕ) (p : Pass T CellName Entry g) : Type 0 where
    pub pass : IsPass lock (actor_count t program) number p
    pub idle : IsIdle p
    pub fresh : IsNew (record { tables = t; program = program; instance = i }) p

  -- a row for each actor, with its passes of these locks, which are over the cells of the topology's first instances
  pub record AreDealt (locks : List LockId) (rows : List (List (Pass T CellName Entry g))) : Type 0 where
    pub shape : HasShape rows (actor_count t program) (length locks)
    pub each : EachItem (λ a k p. (lock : LockId) (i : ℕ) → slice_get locks k ≡ Some lock → slice_get (placed t) k ≡ Some i → IsNewPass lock i a p) rows

  -- a new pass of the cell of each instance
  pub record AreNewPasses (number : ℕ) (row : List (Pass T CellName Entry g)) : Type 0 where
    pub count : length row ≡ length (placed t)
    pub each : (k i : ℕ) (p : Pass T CellName Entry g) → slice_get (placed t) k ≡ Some i → slice_get row k ≡ Some p → (lock : LockId) × IsNewPass lock i number p

  -- the hand of an actor at the opening, with these passes
  pub record IsHandOf (number : ℕ) (row : List (Pass T CellName Entry g)) (h : Handed) : Type 0 where
    pub actor : h.actor ≡ record { tables = t; program = program; number = number; state = record { thread = opened_actor program number; last = 0 }; trace = []; has_room = false }
    pub passes : h.passes ≡ map (λ p. passing p) row
