-- A run under way as its callers see it, and what a turn of an actor comes to.
use Rattle.std.specs.Prelude.{◌≡◌, ◌<◌, ℕ, Bool, true, false, List, [], ◌∷◌, ◌++◌, Some, None}
use Rattle.fp_events.specs.SystemRun.{Step}
use Rattle.fp_tables.specs.Lookup.{Described}
use Rattle.fp_tables.specs.declared.program.Program.{Program}
use Rattle.fp_events.specs.declared.event.Ask.{Ask}
use Rattle.fp_events.specs.declared.event.Entry.{Entry}
use Rattle.fp_events.specs.declared.event.Why.{Why}
use Rattle.fp_events.specs.Due.{due}
use Rattle.fp_events.specs.Ends.{next_stamp}
use Rattle.fp_events.specs.Run.{World, RunTo}
use Rattle.fp_events.specs.Step.{core}
use Rattle.fp_events.specs.Waits.{waits}
use Rattle.fp_running.specs.declared.turn.Turn.{Turn}
use Rattle.fp_running.specs.declared.turn.Turn.TheVariants as turn

-- its tables and its program, which stay, and the entries done so far
pub record Progress : Type 0 where
  pub tables : Described
  pub program : Program
  pub entries : List Entry

-- the entries are a run, and leave this world
abbrev pub Leaves : Progress → World → Type 0
Leaves r w = RunTo r.tables r.program r.entries w

-- with more entries
abbrev pub and_then : Progress → List Entry → Progress
and_then r more = record r { entries = r.entries ++ more }

-- entries are added at the end, if any
abbrev pub GoesOn : Progress → Progress → Type 0
GoesOn old new = (more : List Entry) × (new ≡ and_then old more)

-- entries are added where so it is told, and else nothing changes
abbrev pub Added : Bool → Progress → Progress → Type 0
Added false old new = new ≡ old
Added true old new = (e : Entry) × (more : List Entry) × (new ≡ and_then old (e ∷ more))

-- the one step that the world has for an actor, and it is taken
pub record IsTaken (old new : Progress) (w : World) (a i n : ℕ) : Type 0 where
  pub entry : Entry
  pub after : World
  pub step : Step (core old.tables old.program) w entry after
  pub actor : entry.actor ≡ a
  pub instance : entry.instance ≡ i
  pub stamp : entry.stamp ≡ n
  pub added : new ≡ and_then old (entry ∷ [])

-- the instance that the actor's due ask goes to has no step for it now, for this cause
pub record IsWaiting (r : Progress) (w : World) (a i : ℕ) (why : Why) : Type 0 where
  pub ask : Ask
  pub due : due r.tables r.program a (w.actors a).thread ≡ Some (i, ask)
  pub cause : waits r.tables i (w.instances i).inside ask ≡ Some why
  pub none : next_stamp r.tables r.program w a ≡ None

-- the actor's step has a stamp above the limit
pub record IsAbove (r : Progress) (w : World) (a : ℕ) : Type 0 where
  pub stamp : ℕ
  pub next : next_stamp r.tables r.program w a ≡ Some stamp
  pub above : r.program.steps < stamp

-- nothing is due of the actor, which has halted or not
pub record IsThrough (r : Progress) (w : World) (a : ℕ) (b : Bool) : Type 0 where
  pub halted : (w.actors a).thread.halted ≡ b
  pub none : due r.tables r.program a (w.actors a).thread ≡ None

-- by the answer; where no step is taken nothing changes
abbrev pub Comes : Progress → Progress → World → ℕ → Turn → Type 0
Comes old new w a (turn.Stepped i stamp) = IsTaken old new w a i stamp
Comes old new w a (turn.NotYet i why) = IsWaiting old w a i why × (new ≡ old)
Comes old new w a turn.AtLimit = IsAbove old w a × (new ≡ old)
Comes old new w a turn.AtEnd = IsThrough old w a false × (new ≡ old)
Comes old new w a turn.Halted = IsThrough old w a true × (new ≡ old)

-- in the world that the entries leave
abbrev pub Turned : ℕ → Turn → Progress → Progress → Type 0
Turned a t old new = (w : World) × Leaves old w × Comes old new w a t
