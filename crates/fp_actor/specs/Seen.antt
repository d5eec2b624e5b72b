-- The same of a view: the frames that levels make, what is found at places, and how levels stand.
use Rattle.std.specs.Prelude.{ℕ, List, Option}
use Rattle.fp_base.specs.declared.value.Value.{Value}
use Rattle.fp_events.specs.declared.event.Entry.{Entry}
use Rattle.fp_events.specs.Actor.{Bindings, Action, Doing, Opened, Frame}
use Rattle.fp_actor.specs.declared.level.Base.{Base}
use Rattle.fp_actor.specs.declared.level.Binding.{Binding}
use Rattle.fp_actor.specs.declared.level.Level.{Level}
use Rattle.fp_actor.specs.declared.level.Position.{Position}
use Rattle.fp_actor.specs.declared.level.Source.{Source}
use Rattle.fp_actor.specs.declared.lists.ActionList.{ActionList}
use Rattle.fp_actor.specs.declared.lists.Deed.{Deed}
use Rattle.fp_actor.specs.declared.stack.Bottom.{Bottom}
use Rattle.fp_actor.specs.declared.stack.First.{First}
use Rattle.fp_actor.specs.declared.stack.Reached.{Reached}
use Rattle.fp_actor.specs.declared.view.View.{View}
use Rattle.fp_actor.specs.Placed as placed
use Rattle.fp_actor.specs.Stacked as stacked

module _ (v : View) where
  abbrev pub own_lists : List Doing
  own_lists = stacked.own_lists v.tables.now v.program.now v.number v.trace.now

  abbrev pub value_at : ℕ → Option Value
  value_at = stacked.value_at v.tables.now v.program.now v.number v.trace.now

  abbrev pub action_of : Deed → Action
  action_of = stacked.action_of v.tables.now v.program.now v.number v.trace.now

  abbrev pub actions_of : ActionList → List Action
  actions_of = stacked.actions_of v.tables.now v.program.now v.number v.trace.now

  abbrev pub lists_in : Source → List Doing
  lists_in = stacked.lists_in v.tables.now v.program.now v.number v.trace.now

  abbrev pub action_at : Position → Option Action
  action_at = stacked.action_at v.tables.now v.program.now v.number v.trace.now

  abbrev pub with_nothing : Position → Option (Action × Bindings)
  with_nothing = stacked.with_nothing v.tables.now v.program.now v.number v.trace.now

  abbrev pub called : Option Position → Option (List ℕ)
  called = stacked.called v.tables.now v.program.now v.number v.trace.now

  abbrev pub call_in : Base → Option (List ℕ)
  call_in = stacked.call_in v.tables.now v.program.now v.number v.trace.now

  abbrev pub instance_of : Source → ℕ
  instance_of = stacked.instance_of v.tables.now v.program.now v.number v.trace.now

  abbrev pub default_in : Source → Option Value
  default_in = stacked.default_in v.tables.now v.program.now v.number v.trace.now

  abbrev pub given_at : ℕ → Value
  given_at = stacked.given_at v.tables.now v.program.now v.number v.trace.now

  abbrev pub binding : Binding → List ℕ × Value
  binding = stacked.binding v.tables.now v.program.now v.number v.trace.now

  abbrev pub opened_in : Base → Source → Opened
  opened_in = stacked.opened_in v.tables.now v.program.now v.number v.trace.now

  abbrev pub framed : Level → List Doing → Frame
  framed = stacked.framed v.tables.now v.program.now v.number v.trace.now

  abbrev pub found : Reached → ℕ × ℕ × Action
  found = stacked.found v.tables.now v.program.now v.number v.trace.now

  abbrev pub bound_in : Position → Bindings
  bound_in = stacked.bound_in v.tables.now v.program.now v.number v.trace.now

  module _ (bindings : List Binding) where
    abbrev pub bindings_of : Level → Bindings
    bindings_of = stacked.bindings_of v.tables.now v.program.now v.number v.trace.now bindings

    abbrev pub named_value : Level → List ℕ → Value
    named_value = stacked.named_value v.tables.now v.program.now v.number v.trace.now bindings

    abbrev pub frames : List Level → List Frame
    frames = stacked.frames v.tables.now v.program.now v.number v.trace.now bindings

    abbrev pub IsFirst : List Level → First → Type 0
    IsFirst = stacked.IsFirst v.tables.now v.program.now v.number v.trace.now bindings

    abbrev pub IsBottom : List Level → Bottom → Type 0
    IsBottom = stacked.IsBottom v.tables.now v.program.now v.number v.trace.now bindings

    abbrev pub AreKept : List Level → Type 0
    AreKept = placed.AreKept v.tables.now v.program.now v.number v.trace.now bindings

  abbrev pub Goes : Entry → List Binding → List Level → List Binding → List Level → Type 0
  Goes = placed.Goes v.tables.now v.program.now v.number v.trace.now
