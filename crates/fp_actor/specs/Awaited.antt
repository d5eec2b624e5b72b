-- Which frames an entry goes on from, where it answers their due ask.
use Rattle.std.specs.Prelude.{◌≡◌, Bool, true, false, List, [], Option, Some, None, is_some}
use Rattle.fp_events.specs.declared.event.What.{What}
use Rattle.fp_events.specs.declared.event.What.TheVariants as what
use Rattle.fp_events.specs.Actor.{Action, advance, Bindings, Frame}
use Rattle.fp_events.specs.Due.{first_action}
use Rattle.fp_events.specs.Follows.{doing}
use Rattle.fp_actor.specs.Entries.{IsOpening, IsRemoving, IsSending, IsTaking, IsReturning, IsReading, IsStarting, IsMoving}
use Rattle.fp_actor.specs.declared.step.Change.{Change}
use Rattle.fp_actor.specs.declared.step.Change.TheVariants as change
use Rattle.fp_actor.specs.declared.step.Step.{Step}
use Rattle.fp_actor.specs.declared.step.Step.TheVariants as step

abbrev pub is_advance : Option (Action × Bindings) → Bool
is_advance (Some (advance running signal v, bound)) = true
is_advance _ = false

-- an entry that changes no frame
abbrev pub IsStaying : What → Type 0
IsStaying (what.Asserted r) = Unit {0}
IsStaying _ = ⊥

-- an entry that closes a frame and returns nothing
abbrev pub IsClosing : What → Type 0
IsClosing (what.Leave None) = Unit {0}
IsClosing what.Done = Unit {0}
IsClosing _ = ⊥

abbrev pub IsChange : Change → What → Type 0
IsChange change.Frame w = IsOpening w
IsChange change.Nothing w = IsRemoving w
IsChange change.Sending w = IsSending w
IsChange change.Before w = IsStarting w
IsChange change.Instead w = IsMoving w
IsChange change.Value w = IsReading w

abbrev pub IsStep : Step → What → Type 0
IsStep step.Stay w = IsStaying w
IsStep step.Close w = IsClosing w
IsStep step.Return w = IsReturning w
IsStep step.Take w = IsTaking w
IsStep (step.Act c) w = IsChange c w

-- whether an entry does a first action
abbrev pub acts : What → Bool
acts (what.Leave v) = false
acts what.Done = false
acts (what.Take number point with) = false
acts _ = true

abbrev pub advances : What → Bool
advances (what.Start running actions leaf) = true
advances (what.Move running signal actions leaf) = true
advances _ = false

-- what does a first action comes where one is left, an advance where that is one; a take comes there too, or where no frame is
pub record IsAwaited (fs : List Frame) (w : What) : Type 0 where
  pub action : acts w ≡ true → is_some (first_action (doing fs)) ≡ true
  pub advance : advances w ≡ true → is_advance (first_action (doing fs)) ≡ true
  pub take : IsTaking w → is_some (first_action (doing fs)) ≡ false → fs ≡ []
