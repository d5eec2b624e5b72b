-- An actor as its callers see it.
use Rattle.std.specs.Prelude.{◌≡◌, ℕ, Bool, true, List, Option, Some, option_map}
use Rattle.fp_tables.specs.Lookup.{Described}
use Rattle.fp_tables.specs.declared.program.Program.{Program}
use Rattle.fp_events.specs.declared.event.Ask.{Ask}
use Rattle.fp_events.specs.declared.event.Entry.{Entry}
use Rattle.fp_events.specs.Actor.{ActorState}
use Rattle.fp_events.specs.Due.{due}
use Rattle.fp_events.specs.SystemRun as system
use Rattle.fp_events.specs.Step.{core, answers_due}

-- its tables and program with its number in it, which stay; its trace; its state; and whether it has room for an entry more
pub record Acting : Type 0 where
  pub tables : Described
  pub program : Program
  pub number : ℕ
  pub state : ActorState
  pub trace : List Entry
  pub has_room : Bool

-- the trace is one of the actor, and leaves this state
abbrev pub IsToldOf : Acting → Type 0
IsToldOf a = system.Told (core a.tables a.program) a.number a.trace a.state

-- the ask that is due of it, with the instance that it goes to
abbrev pub due_of_actor : Acting → Option (ℕ × Ask)
due_of_actor a = due a.tables a.program a.number a.state.thread

-- the entry answers the due ask, and has the actor's number and the instance that the ask goes to
abbrev pub AnswersDue : Acting → Entry → Type 0
AnswersDue a e = option_map (answers_due a.tables a.program a.number e) (due_of_actor a) ≡ Some true

-- an actor of the same number, of the same tables and program
pub record IsSameActor (old new : Acting) : Type 0 where
  pub tables : new.tables ≡ old.tables
  pub program : new.program ≡ old.program
  pub number : new.number ≡ old.number
