-- Why an instance has no step for an ask now.
use Rattle.std.specs.Prelude.{ℕ, Bool, true, false, nat_lt, length, Option, Some, None, option_and_then, is_some, slice_get}
use Rattle.fp_tables.specs.Specials.{component}
use Rattle.fp_tables.specs.Lookup.{Described}
use Rattle.fp_tables.specs.declared.component.Full.{Full}
use Rattle.fp_tables.specs.declared.component.Full.TheVariants as full
use Rattle.fp_tables.specs.declared.component.Way.TheVariants.{Later, Guarded}
use Rattle.fp_events.specs.Lookup.{queue_size, machine}
use Rattle.fp_events.specs.declared.event.Ask.{Ask}
use Rattle.fp_events.specs.declared.event.Ask.TheVariants as ask
use Rattle.fp_events.specs.declared.event.Why.{Why}
use Rattle.fp_events.specs.declared.event.Why.TheVariants as why
use Rattle.fp_events.specs.Instance.{Inside, Holding, Pending}
use Rattle.fp_events.specs.Manners.{Manner, by, saves, manner}
use Rattle.fp_events.specs.Queue.{next_call}

abbrev pub held_by : Option Holding → Option Why
held_by None = None
held_by (Some held) = Some (why.GuardHeld held.actor)

abbrev pub blocked : Bool → Full → Option Why
blocked true policy = None
blocked false full.Block = Some why.Full
blocked false _ = None

abbrev pub take_waits : Option ℕ → Option Why → Option Pending → Option Why
take_waits turn empty None = empty
take_waits None empty (Some p) = None
take_waits (Some holder) empty (Some p) = Some (why.TurnHeld holder)

module _ (t : Described) (i : ℕ) where
  abbrev pub arrival_waits : Inside → Manner → Option Why
  arrival_waits s (by Guarded) = held_by s.guard
  arrival_waits s (by (Later priority policy)) = blocked (nat_lt (length s.pending) (queue_size t i)) policy
  arrival_waits s _ = None

  -- the cause for which the ask has no step now
  unfoldable pub waits : Inside → Ask → Option Why
  waits s (ask.Arrive r) = option_and_then (arrival_waits s) (manner t i r.point)
  waits s ask.Take = take_waits s.turn (Some why.QueueEmpty) (next_call s.pending)
  waits s ask.Dispatch = take_waits s.turn None (next_call s.pending)
  waits s _ = None

  abbrev pub manner_is : Inside → Manner → Bool
  manner_is s (saves k) = is_some (slice_get s.params k)
  manner_is s _ = true

  abbrev pub manner_there : Inside → Option Manner → Bool
  manner_there s None = false
  manner_there s (Some m) = manner_is s m

  -- what the ask names is there: its place, event, channel, parameter or machine
  unfoldable pub is_there : Inside → Ask → Bool
  is_there s (ask.Arrive r) = manner_there s (manner t i r.point)
  is_there s (ask.Emit event with) = is_some (slice_get (component t i).events event)
  is_there s (ask.Write channel v) = is_some (slice_get (component t i).channels channel)
  is_there s (ask.Read param) = is_some (slice_get s.params param)
  is_there s (ask.Advance running signal v) = is_some (machine t i running)
  is_there s _ = true
