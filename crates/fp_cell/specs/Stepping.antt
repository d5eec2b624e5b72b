-- A step of an instance, by what it tells for an ask and what that leaves.
use Rattle.std.specs.Prelude.{◌≡◌, ℕ, Some}
use Rattle.fp_tables.specs.Lookup.{Described}
use Rattle.fp_tables.specs.declared.program.Program.{Program}
use Rattle.fp_events.specs.declared.event.Ask.{Ask}
use Rattle.fp_events.specs.declared.event.What.{What}
use Rattle.fp_events.specs.Instance.{Inside}
use Rattle.fp_events.specs.Tells.{tells}
use Rattle.fp_events.specs.Leaves.{leaves}
use Rattle.fp_cell.specs.Seen.{holder}
use Rattle.fp_cell.specs.declared.state.State.{State}

-- what an instance has beside its last stamp
abbrev pub inside : State → Inside
inside s = record {
  pending = s.calls.pending;
  puts = s.calls.puts;
  guard = holder s.guard;
  turn = s.turn;
  machines = s.machines.items;
  params = s.params.items;
  channels = s.channels.items;
  counts = s.counts.items;
}

-- for the ask of the actor the instance tells this, and is left so
pub record Steps (t : Described) (program : Program) (i actor : ℕ) (ask : Ask) (before : Inside) (what : What) (after : Inside) : Type 0 where
  pub told : tells t program i before ask ≡ Some what
  pub left : after ≡ leaves t program i before actor what

-- the queue is as large, and of the same priorities
abbrev pub HasSameQueue : State → State → Type 0
HasSameQueue before after = (after.calls.size ≡ before.calls.size) × (after.calls.priorities ≡ before.calls.priorities)
