-- The entry that an instance tells for an ask, if it has a step for it.
use Rattle.std.specs.Prelude.{ℕ, suc, Bool, true, false, cond, ◌&&◌, nat_lt, nat_le, List, length, get_or, Option, Some, None, option_map, option_and_then, is_some, slice_get}
use Rattle.fp_tables.specs.Specials.{component, special_wire}
use Rattle.fp_base.specs.Same.{same, same_option}
use Rattle.fp_base.specs.Rendered.{rendered}
use Rattle.fp_base.specs.declared.value.Value.{Value}
use Rattle.fp_tables.specs.Lookup.{Described}
use Rattle.fp_tables.specs.declared.component.Way.TheVariants.{Later, Sync, Guarded}
use Rattle.fp_tables.specs.declared.component.Event.{Event}
use Rattle.fp_tables.specs.declared.component.Channel.{Channel}
use Rattle.fp_tables.specs.declared.component.Special.TheVariants as special
use Rattle.fp_tables.specs.declared.machine.Machine.{Machine}
use Rattle.fp_tables.specs.declared.program.Program.{Program}
use Rattle.fp_events.specs.declared.event.Arrival.{Arrival}
use Rattle.fp_events.specs.declared.event.Ask.{Ask}
use Rattle.fp_events.specs.declared.event.Ask.TheVariants as ask
use Rattle.fp_events.specs.declared.event.Fate.{Fate}
use Rattle.fp_events.specs.declared.event.Fate.TheVariants.{Sent, Held, Same, Unwired}
use Rattle.fp_events.specs.declared.event.What.{What}
use Rattle.fp_events.specs.declared.event.What.TheVariants as what
use Rattle.fp_events.specs.Lookup.{queue_size, machine, answers_of}
use Rattle.fp_events.specs.Machine.{Configuration, Walk, starts, moves}
use Rattle.fp_events.specs.Instance.{Inside, Holding}
use Rattle.fp_events.specs.Manners.{Manner, by, sets, saves, manner}
use Rattle.fp_events.specs.Queue.{next_call, overflows, takes}

-- a guarded arrival enters only where the guard is free
abbrev pub guards : Arrival → Option Holding → Option What
guards r None = Some (what.Guard r)
guards r (Some held) = None

-- whether the event has a throttle and its count has reached it
abbrev pub is_held : ℕ → Option ℕ → Bool
is_held count None = false
is_held count (Some throttle) = nat_le throttle count

-- whether the channel is updated on change and this value is the last one written
abbrev pub is_kept : Inside → ℕ → Value → Channel → Bool
is_kept s channel value x = x.on_change && same_option same (get_or s.channels channel None) (Some value)

-- sent where the special port has a wire
abbrev pub sent : Bool → Fate
sent true = Sent
sent false = Unwired

abbrev pub configuration_of : Inside → ℕ → Option Configuration
configuration_of s running = get_or s.machines running None

-- a machine that isn't started starts, else it moves
abbrev pub advances : ℕ → ℕ → Option Configuration → Walk → What
advances running signal None w = what.Start running w.actions w.reached.leaf
advances running signal (Some c) w = what.Move running signal w.actions w.reached.leaf

module _ (t : Described) (i : ℕ) where
  abbrev pub arrives : Inside → Arrival → Manner → Option What
  -- enter: an arrival at a sync place, always
  arrives s r (by Sync) = Some (what.Enter r)
  -- guard: an arrival at a guarded place, where the guard is free
  arrives s r (by Guarded) = guards r s.guard
  -- set and save: an arrival at the implied command of a parameter, always; a save has the parameter's value
  arrives s r (sets k) = Some (what.Set r)
  arrives s r (saves k) = option_map (λ v. what.Save r v) (slice_get s.params k)
  -- put: an asynchronous arrival, where fewer calls than the queue size are pending; its number is one more than the puts so far.
  -- drop, hook, assert: the same at a full queue, by its policy
  arrives s r (by (Later priority policy)) = cond (nat_lt (length s.pending) (queue_size t i)) (Some (what.Put (suc s.puts) r)) (overflows r policy)

  abbrev pub emit_fate : Inside → ℕ → Event → Fate
  emit_fate s event x = cond (is_held (get_or s.counts event 0) x.throttle) Held (sent (is_some (special_wire t i special.Event)))

  abbrev pub emits : Inside → ℕ → List Value → Event → What
  emits s event with x = what.Emit event (emit_fate s event x) (rendered x.fields.parts with)

  abbrev pub write_fate : Inside → ℕ → Value → Channel → Fate
  write_fate s channel value x = cond (is_kept s channel value x) Same (sent (is_some (special_wire t i special.Tlm)))

  abbrev pub writes : Inside → ℕ → Value → Channel → What
  writes s channel value x = what.Write channel (write_fate s channel value x) value

module _ (t : Described) (program : Program) (i : ℕ) where
  -- how a machine goes on a signal, from not started or from a configuration
  abbrev pub goes_on : ℕ → ℕ → Option Configuration → Machine → Walk
  goes_on running signal None m = starts m (answers_of program i running)
  goes_on running signal (Some c) m = moves m (answers_of program i running) c signal

  unfoldable pub tells : Inside → Ask → Option What
  -- enter, guard, set, save, put, drop, hook, assert: an arrival, where the instance has its place
  tells s (ask.Arrive r) = option_and_then (arrives t i s r) (manner t i r.point)
  -- leave: always
  tells s (ask.Leave v) = Some (what.Leave v)
  -- done: always
  tells s ask.Done = Some what.Done
  -- take: where a call is pending and the turn is free, the next call
  tells s ask.Take = takes s.turn None (next_call s.pending)
  -- a dispatch takes likewise. Empty: a dispatch where nothing is pending
  tells s ask.Dispatch = takes s.turn (Some what.Empty) (next_call s.pending)
  -- emit: always, held, sent or unwired, with the rendered text
  tells s (ask.Emit event with) = option_map (emits t i s event with) (slice_get (component t i).events event)
  -- write: always, same, sent or unwired
  tells s (ask.Write channel value) = option_map (writes t i s channel value) (slice_get (component t i).channels channel)
  -- read: always, with the parameter's value
  tells s (ask.Read param) = option_map (λ v. what.Read param v) (slice_get s.params param)
  -- start: an advance of a machine that isn't started; move: of one that is
  tells s (ask.Advance running signal value) =
      option_map (λ m. advances running signal (configuration_of s running) (goes_on running signal (configuration_of s running) m)) (machine t i running)
