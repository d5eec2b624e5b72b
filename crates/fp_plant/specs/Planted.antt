-- A plant and a hand as their callers see them, and what a step does.
use Rattle.std.specs.Prelude.{◌≡◌, ◌≢◌, ◌⊎◌, ℕ, ◌+◌, ◌<◌, ◌≤◌, true, false, List, [], ◌∷◌, ◌++◌, length, map, slice_get, Option, Some, None}
use Rattle.fp_events.specs.SystemRun.{Kept}
use Rattle.fp_tables.specs.Lookup.{Described, placed}
use Rattle.fp_tables.specs.declared.program.Program.{Program}
use Rattle.fp_events.specs.declared.event.Ask.{Ask}
use Rattle.fp_events.specs.declared.event.Entry.{Entry}
use Rattle.fp_events.specs.declared.event.Why.{Why}
use Rattle.fp_events.specs.Actor.{opened_actor}
use Rattle.fp_events.specs.Fits.{actor_count}
use Rattle.fp_events.specs.Instance.{InstanceState}
use Rattle.fp_events.specs.Step.{core, instance_part, actor_part}
use Rattle.fp_events.specs.Waits.{waits}
use Rattle.fp_actor.specs.Acting.{Acting, due_of_actor, IsSameActor}
use Rattle.fp_gate.specs.declared.booked.Entry.{Entry as Left}
use Rattle.fp_gate.specs.declared.view.View.{View}
use Rattle.fp_gate.specs.Locks.{LockId}
use Rattle.fp_plant.specs.declared.held.CellName.{CellName}
use Rattle.fp_plant.specs.declared.plant.Stepped.{Stepped}
use Rattle.fp_plant.specs.declared.plant.Stepped.TheVariants.{Took, NotYet, AtLimit, AtEnd, Halted}
use Rattle.fp_plant.specs.Noted.{noted, items}

-- a pass of a cell: the lock that gave it, and what it knows
pub record Passing : Type 0 where
  pub lock : LockId
  pub view : View CellName Entry

-- an actor, and its pass of each instance of the topology, in the topology's order
pub record Handed : Type 0 where
  pub actor : Acting
  pub passes : List Passing

pub record Planted : Type 0 where
  pub tables : Described
  pub program : Program
  pub locks : List LockId

-- the lists of what the passes left
abbrev pub lefts : Handed → List (List (Left Entry))
lefts h = map (λ (q : Passing). q.view.left) h.passes

-- the plant gave the hand
pub record Gives (w : Planted) (h : Handed) : Type 0 where
  pub tables : h.actor.tables ≡ w.tables
  pub program : h.actor.program ≡ w.program
  pub locks : map (λ (q : Passing). q.lock) h.passes ≡ w.locks

-- the hands are all that the plant gave, in the order of their actors
pub record AreAll (w : Planted) (hs : List Handed) : Type 0 where
  pub count : length hs ≡ actor_count w.tables w.program
  pub each : (k : ℕ) (h : Handed) → slice_get hs k ≡ Some h → Gives w h × (h.actor.number ≡ k)

-- the hand's actor is at the opening, and none of its passes has had a turn, left an entry or seen one
pub record IsOpened (h : Handed) : Type 0 where
  pub state : h.actor.state ≡ record { thread = opened_actor h.actor.program h.actor.number; last = 0 }
  pub trace : h.actor.trace ≡ []
  pub passes : (k : ℕ) (q : Passing) → slice_get h.passes k ≡ Some q → (q.view.left ≡ []) × (q.view.base ≡ []) × (q.view.turns ≡ 0)

-- the state and the trace of the actor stay, and what its passes left
pub record IsUntouched (old new : Handed) : Type 0 where
  pub actor : IsSameActor old.actor new.actor
  pub state : new.actor.state ≡ old.actor.state
  pub trace : new.actor.trace ≡ old.actor.trace
  pub lefts : lefts new ≡ lefts old

-- a call that took the cell of the due ask: its pass there had one turn more, no other pass has changed, and the history that the pass saw leaves this state
pub record Met (old new : Handed) : Type 0 where
  pub instance : ℕ
  pub place : ℕ
  pub ask : Ask
  pub before : Passing
  pub after : Passing
  pub state : InstanceState
  pub due : due_of_actor old.actor ≡ Some (instance, ask)
  pub there : slice_get (placed old.actor.tables) place ≡ Some instance
  pub was : slice_get old.passes place ≡ Some before
  pub is : slice_get new.passes place ≡ Some after
  pub others : (k : ℕ) → k ≢ place → slice_get new.passes k ≡ slice_get old.passes k
  pub turns : after.view.turns ≡ before.view.turns + 1
  pub saw : Kept (core old.actor.tables old.actor.program) instance (items after.view.base) state

module _ {old new : Handed} where
  -- what the instance makes of the due ask after that history
  abbrev pub part : Met old new → Option (Entry × InstanceState)
  part m = instance_part old.actor.tables old.actor.program m.instance m.state old.actor.number m.ask old.actor.state.last

  -- why it makes nothing of it
  abbrev pub cause : Met old new → Option Why
  cause m = waits old.actor.tables m.instance m.state.inside m.ask

  -- the one entry is the actor's next, and was left with the stamp that the actor had seen
  pub record IsTaken (m : Met old new) : Type 0 where
    pub entry : Entry
    pub leaves : InstanceState
    pub part : part m ≡ Some (entry, leaves)
    pub within : entry.stamp ≤ old.actor.program.steps
    pub accepted : actor_part old.actor.tables old.actor.program old.actor.number old.actor.state entry ≡ Some new.actor.state
    pub trace : new.actor.trace ≡ old.actor.trace ++ entry ∷ []
    pub actor : IsSameActor old.actor new.actor
    pub left : m.after.view.left ≡ m.before.view.left ++ noted (entry, old.actor.state.last) ∷ []

  -- there is a step, with a stamp above the limit
  pub record IsAbove (m : Met old new) : Type 0 where
    pub entry : Entry
    pub leaves : InstanceState
    pub part : part m ≡ Some (entry, leaves)
    pub above : old.actor.program.steps < entry.stamp

-- what a step that answers so does to the hand
unfoldable pub StepAnswers : Handed → Stepped → Handed → Type 0
StepAnswers old Took new = (m : Met old new) × IsTaken m
StepAnswers old (NotYet why) new = (m : Met old new) × (part m ≡ None) × (cause m ≡ Some why) × IsUntouched old new
StepAnswers old AtLimit new = (m : Met old new) × IsAbove m × IsUntouched old new
StepAnswers old AtEnd new = (due_of_actor old.actor ≡ None) × (old.actor.state.thread.halted ≡ false) × IsUntouched old new
StepAnswers old Halted new = (old.actor.state.thread.halted ≡ true) × IsUntouched old new

-- the due ask has no step within the limit after the history that the hand's pass there last saw
pub record HasNoStep (h : Handed) : Type 0 where
  pub instance : ℕ
  pub place : ℕ
  pub ask : Ask
  pub pass : Passing
  pub state : InstanceState
  pub due : due_of_actor h.actor ≡ Some (instance, ask)
  pub there : slice_get (placed h.actor.tables) place ≡ Some instance
  pub is : slice_get h.passes place ≡ Some pass
  pub saw : Kept (core h.actor.tables h.actor.program) instance (items pass.view.base) state
  pub none : (e : Entry) (u : InstanceState) → instance_part h.actor.tables h.actor.program instance state h.actor.number ask h.actor.state.last ≡ Some (e, u) →
      h.actor.program.steps < e.stamp

-- the plant can't get this hand on: nothing is due of its actor, or what is due has no step
unfoldable pub Rests : Handed → Type 0
Rests h = (due_of_actor h.actor ≡ None) ⊎ HasNoStep h
