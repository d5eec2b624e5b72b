-- The words of callers: which lock a pass is of, and what it knows and may do.
use Rattle.std.specs.Prelude.{ℕ, List}
use Rattle.atomic_table.specs.Seated.{TableId}
use Rattle.fp_gate.specs.declared.booked.Booked.{Ghosts}
use Rattle.fp_gate.specs.declared.booked.Entry.{Entry}
use Rattle.fp_gate.specs.declared.lock.Pass.{Pass}
use Rattle.fp_gate.specs.declared.lock.TicketLock.{TicketLock}
use Rattle.fp_gate.specs.declared.view.View.{View}
use Rattle.fp_gate.specs.Passes as passes

-- which lock it is
abbrev pub LockId : Type 0
LockId = TableId

module _ {T N I : Type 0} where
  abbrev pub id_of : TicketLock T N I → LockId
  id_of lock = lock.board.shared.table_id

  -- how many passes it has
  abbrev pub seats_of : TicketLock T N I → ℕ
  seats_of lock = lock.seats

module _ {T N I : Type 0} {g : Ghosts T N I} where
  -- the lock that gave the pass
  abbrev pub lock_of : Pass T N I g → LockId
  lock_of pass = pass.seat.table_id

  -- what the pass knows
  abbrev pub view_of : Pass T N I g → View N I
  view_of pass = passes.view pass.seat

  -- the pass of this number, of a lock with so many
  abbrev pub IsPass : LockId → ℕ → ℕ → Pass T N I g → Type 0
  IsPass lock seats number pass = passes.IsPass lock seats number pass.seat

  -- outside, with no ticket
  abbrev pub IsIdle : Pass T N I g → Type 0
  IsIdle pass = passes.IsIdle pass.seat

  -- inside: the value is with the caller
  abbrev pub HasEntered : Pass T N I g → Type 0
  HasEntered pass = passes.HasEntered pass.seat

  -- the same pass of the same lock
  abbrev pub IsSamePass : Pass T N I g → Pass T N I g → Type 0
  IsSamePass old new = passes.IsSamePass old.seat new.seat

  -- it has never entered, and its lock has this name
  abbrev pub IsNew : N → Pass T N I g → Type 0
  IsNew name pass = passes.IsNew name pass.seat

  -- the value has the name of the pass with this number, and its entries of the pass are those that it left
  abbrev pub Closes : (T → N) → (T → List (Entry I)) → T → ℕ → Pass T N I g → Type 0
  Closes name history value number pass = passes.Closes name history value number pass.seat
