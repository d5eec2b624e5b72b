-- A cell as its callers see it.
use Rattle.std.specs.Prelude.{ℕ, List, []}
use Rattle.fp_events.specs.SystemRun as system
use Rattle.fp_tables.specs.Lookup.{Described}
use Rattle.fp_tables.specs.declared.program.Program.{Program}
use Rattle.fp_events.specs.Instance.{InstanceState, opened_instance}
use Rattle.fp_events.specs.Step.{core}
use Rattle.fp_events.specs.declared.event.Entry.{Entry}

-- what no call changes: the tables, the program, and the instance
pub record Seat : Type 0 where
  pub tables : Described
  pub program : Program
  pub instance : ℕ

pub record Standing : Type 0 where
  pub seat : Seat
  pub state : InstanceState
  pub history : List Entry

-- the history is one of the instance, and leaves this state
abbrev pub IsKeptOf : Standing → Type 0
IsKeptOf c = system.Kept (core c.seat.tables c.seat.program) c.seat.instance c.history c.state

-- at the opening
abbrev pub opened : Seat → Standing
opened seat = record { seat = seat; state = record { inside = opened_instance seat.tables seat.instance; last = 0 }; history = [] }
