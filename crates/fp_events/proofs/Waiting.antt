-- An ask has a step exactly where there is no cause against it.
use Rattle.std.proofs.Common.{◌≡◌, ℕ, suc, Bool, true, false, cond, nat_lt, length, Option, Some, None, option_map, option_and_then, is_some, not, refl, slice_get}
use Rattle.fp_tables.specs.Specials.{component}
use Rattle.fp_tables.specs.Lookup.{Described}
use Rattle.fp_tables.specs.declared.component.Full.{Full}
use Rattle.fp_tables.specs.declared.component.Full.TheVariants as full
use Rattle.fp_tables.specs.declared.component.Way.TheVariants.{Later, Sync, Guarded}
use Rattle.fp_tables.specs.declared.program.Program.{Program}
use Rattle.fp_events.specs.Lookup.{queue_size, machine}
use Rattle.fp_events.specs.declared.event.Arrival.{Arrival}
use Rattle.fp_events.specs.declared.event.Ask.{Ask}
use Rattle.fp_events.specs.declared.event.Ask.TheVariants as ask
use Rattle.fp_events.specs.declared.event.What.{What}
use Rattle.fp_events.specs.declared.event.What.TheVariants as what
use Rattle.fp_events.specs.declared.event.Why.{Why}
use Rattle.fp_events.specs.declared.event.Why.TheVariants as why
use Rattle.fp_events.specs.Instance.{Inside, Pending, Holding}
use Rattle.fp_events.specs.Manners.{Manner, by, sets, saves, manner}
use Rattle.fp_events.specs.Tells.{arrives, guards, tells}
use Rattle.fp_events.specs.Queue.{overflows, takes, next_call}
use Rattle.fp_events.specs.Waits.{held_by, blocked, take_waits, arrival_waits, waits, manner_there, manner_is, is_there}

map_some : {T U : Type 0} (f : T → U) (o : Option T) → is_some o ≡ true → is_some (option_map f o) ≡ true
map_some f None h = absurd (cc)
map_some f (Some x) h = refl

guard_waits : (r : Arrival) (g : Option Holding) → is_some (guards r g) ≡ not (is_some (held_by g))
guard_waits r None = refl
guard_waits r (Some held) = refl

put_waits : (b : Bool) (n : ℕ) (r : Arrival) (policy : Full) → is_some (cond b (Some (what.Put n r)) (overflows r policy)) ≡ not (is_some (blocked b policy))
put_waits true n r policy = refl
put_waits false n r full.Assert = refl
put_waits false n r full.Block = refl
put_waits false n r full.Dropped = refl
put_waits false n r full.Hook = refl

takes_waits : (turn : Option ℕ) (o : Option What) (empty : Option Why) (next : Option Pending) → is_some o ≡ not (is_some empty) → is_some (takes turn o next) ≡ not (is_some (take_waits turn empty next))
takes_waits turn o empty None h = h
takes_waits None o empty (Some p) h = refl
takes_waits (Some holder) o empty (Some p) h = refl

module _ (t : Described) (program : Program) (i : ℕ) where
  arrives_waits : (s : Inside) (r : Arrival) (m : Manner) → manner_is t i s m ≡ true → is_some (arrives t i s r m) ≡ not (is_some (arrival_waits t i s m))
  arrives_waits s r (by Sync) h = refl
  arrives_waits s r (by Guarded) h = guard_waits r s.guard
  arrives_waits s r (by (Later priority policy)) h = put_waits (nat_lt (length s.pending) (queue_size t i)) (suc s.puts) r policy
  arrives_waits s r (sets k) h = refl
  arrives_waits s r (saves k) h = map_some (λ v. what.Save r v) (slice_get s.params k) h

  place_waits : (s : Inside) (r : Arrival) (o : Option Manner) → manner_there t i s o ≡ true
      → is_some (option_and_then (arrives t i s r) o) ≡ not (is_some (option_and_then (arrival_waits t i s) o))
  place_waits s r None h = absurd (cc)
  place_waits s r (Some m) h = arrives_waits s r m h

  pub tells_or_waits : (s : Inside) (q : Ask) → is_there t i s q ≡ true → is_some (tells t program i s q) ≡ not (is_some (waits t i s q))
  unfolding tells waits is_there
  tells_or_waits s (ask.Arrive r) h = place_waits s r (manner t i r.point) h
  tells_or_waits s (ask.Leave v) h = refl
  tells_or_waits s ask.Done h = refl
  tells_or_waits s ask.Take h = takes_waits s.turn None (Some why.QueueEmpty) (next_call s.pending) refl
  tells_or_waits s ask.Dispatch h = takes_waits s.turn (Some what.Empty) None (next_call s.pending) refl
  tells_or_waits s (ask.Emit event with) h = map_some _ (slice_get (component t i).events event) h
  tells_or_waits s (ask.Write channel v) h = map_some _ (slice_get (component t i).channels channel) h
  tells_or_waits s (ask.Read param) h = map_some _ (slice_get s.params param) h
  tells_or_waits s (ask.Advance running signal v) h = map_some _ (machine t i running) h
