-- What a hand keeps, and one turn of a pass at its cell.
use Rattle.std.specs.Prelude.{◌≡◌, ℕ, ◌+◌, ◌<◌, ◌≤◌, List, [], ◌∷◌, ◌++◌, map, length, slice_get, Option, Some}
use Rattle.fp_events.specs.SystemRun.{Kept}
use Rattle.fp_tables.specs.Lookup.{placed}
use Rattle.fp_events.specs.declared.event.Ask.{Ask}
use Rattle.fp_events.specs.declared.event.Entry.{Entry}
use Rattle.fp_events.specs.Fits.{actor_count}
use Rattle.fp_events.specs.Instance.{InstanceState}
use Rattle.fp_events.specs.Step.{core, instance_part}
use Rattle.fp_events.specs.Waits.{waits}
use Rattle.fp_cell.specs.declared.cell.Reply.{Reply}
use Rattle.fp_cell.specs.declared.cell.Reply.TheVariants.{Stepped, NotYet, AtLimit}
use Rattle.fp_actor.specs.Acting.{Acting, IsToldOf}
use Rattle.fp_run_laws.specs.Seen.{seen_at, with_stamps}
use Rattle.fp_gate.specs.declared.booked.Booked.{Ghosts}
use Rattle.fp_gate.specs.declared.booked.Entry.{Entry as Left}
use Rattle.fp_gate.specs.declared.lock.Pass.{Pass}
use Rattle.fp_gate.specs.Locks.{lock_of, view_of}
use Rattle.fp_gate.specs.Passes.{made_at}
use Rattle.fp_plant.specs.declared.held.CellName.{CellName}
use Rattle.fp_plant.specs.Noted.{noted, items}
use Rattle.fp_plant.specs.Planted.{Passing, Handed}

abbrev pub passing : {T : Type 0} {g : Ghosts T CellName Entry} → Pass T CellName Entry g → Passing
passing p = record { lock = lock_of p; view = view_of p }

-- the actor's pass of the cell of an instance: what it left is, in order, what the trace has there, each entry with the stamp before it in the trace
pub record IsOwn (a : Acting) (i : ℕ) (q : Passing) : Type 0 where
  pub number : q.view.number ≡ a.number
  pub made : q.view.made ≡ made_at (actor_count a.tables a.program) a.number
  pub name : q.view.name ≡ Some (record { tables = a.tables; program = a.program; instance = i })
  pub left : q.view.left ≡ map noted (seen_at i (with_stamps a.trace))

-- the trace is told, and each pass is the actor's own of the cell at its place
pub record IsHand (h : Handed) : Type 0 where
  pub told : IsToldOf h.actor
  pub count : length h.passes ≡ length (placed h.actor.tables)
  pub own : (k i : ℕ) (q : Passing) → slice_get (placed h.actor.tables) k ≡ Some i → slice_get h.passes k ≡ Some q → IsOwn h.actor i q

-- the same pass, after one turn more
pub record HasTurned (old new : Passing) : Type 0 where
  pub lock : new.lock ≡ old.lock
  pub name : new.view.name ≡ old.view.name
  pub number : new.view.number ≡ old.view.number
  pub made : new.view.made ≡ old.view.made
  pub turns : new.view.turns ≡ old.view.turns + 1

-- what the instance in this state makes of the actor's ask
abbrev pub made_of : Acting → ℕ → InstanceState → Ask → Option (Entry × InstanceState)
made_of a i s ask = instance_part a.tables a.program i s a.number ask a.state.last

-- what the cell in this state answers, and what that adds to what the pass left
abbrev pub Says : Acting → ℕ → InstanceState → Ask → Reply → List (Left Entry) → List (Left Entry) → Type 0
Says a i s ask (Stepped e) old new =
    (u : InstanceState) × (made_of a i s ask ≡ Some (e, u)) × (e.stamp ≤ a.program.steps) × (new ≡ old ++ noted (e, a.state.last) ∷ [])
Says a i s ask (NotYet why) old new = (waits a.tables i s.inside ask ≡ Some why) × (new ≡ old)
Says a i s ask AtLimit old new = (e : Entry) × (u : InstanceState) × (made_of a i s ask ≡ Some (e, u)) × (a.program.steps < e.stamp) × (new ≡ old)

-- what the cell answers after the history that the pass then saw last
pub record Replies (a : Acting) (i : ℕ) (ask : Ask) (r : Reply) (old new : Passing) : Type 0 where
  pub state : InstanceState
  pub saw : Kept (core a.tables a.program) i (items new.view.base) state
  pub says : Says a i state ask r old.view.left new.view.left
