-- Where a cause stands against an ask, the instance has no step for it.
use Rattle.std.proofs.Common.{◌≡◌, ℕ, suc, max, Bool, true, false, cond, nat_lt, length, Option, Some, None, option_map, option_and_then, refl, ap}
use Rattle.fp_tables.specs.Lookup.{Described}
use Rattle.fp_tables.specs.declared.component.Full.{Full}
use Rattle.fp_tables.specs.declared.component.Full.TheVariants as full
use Rattle.fp_tables.specs.declared.component.Way.TheVariants.{Later, Sync, Guarded}
use Rattle.fp_tables.specs.declared.program.Program.{Program}
use Rattle.fp_events.specs.Lookup.{queue_size}
use Rattle.fp_events.specs.declared.event.Arrival.{Arrival}
use Rattle.fp_events.specs.declared.event.Ask.{Ask}
use Rattle.fp_events.specs.declared.event.Ask.TheVariants as ask
use Rattle.fp_events.specs.declared.event.What.{What}
use Rattle.fp_events.specs.declared.event.What.TheVariants as what
use Rattle.fp_events.specs.declared.event.Why.{Why}
use Rattle.fp_events.specs.declared.event.Why.TheVariants as why
use Rattle.fp_events.specs.Instance.{Inside, InstanceState, Pending, Holding}
use Rattle.fp_events.specs.Manners.{Manner, by, sets, saves, manner}
use Rattle.fp_events.specs.Tells.{arrives, guards, tells}
use Rattle.fp_events.specs.Queue.{overflows, takes, next_call}
use Rattle.fp_events.specs.Step.{fitting, stamped, instance_part}
use Rattle.fp_events.specs.Waits.{held_by, blocked, take_waits, arrival_waits, waits}

guard_none : (r : Arrival) (g : Option Holding) (y : Why) → held_by g ≡ Some y → guards r g ≡ None
guard_none r None y h = absurd (cc)
guard_none r (Some held) y h = refl

put_none : (b : Bool) (n : ℕ) (r : Arrival) (policy : Full) (y : Why) → blocked b policy ≡ Some y → cond b (Some (what.Put n r)) (overflows r policy) ≡ None
put_none true n r policy y h = absurd (cc)
put_none false n r full.Block y h = refl
put_none false n r full.Assert y h = absurd (cc)
put_none false n r full.Dropped y h = absurd (cc)
put_none false n r full.Hook y h = absurd (cc)

takes_none : (turn : Option ℕ) (otherwise : Option What) (empty : Option Why) (next : Option Pending) (y : Why) → (empty ≡ Some y → otherwise ≡ None)
    → take_waits turn empty next ≡ Some y → takes turn otherwise next ≡ None
takes_none turn otherwise empty None y none h = none h
takes_none None otherwise empty (Some p) y none h = absurd (cc)
takes_none (Some holder) otherwise empty (Some p) y none h = refl

module _ (t : Described) (program : Program) (i : ℕ) where
  arrives_none : (s : Inside) (r : Arrival) (m : Manner) (y : Why) → arrival_waits t i s m ≡ Some y → arrives t i s r m ≡ None
  arrives_none s r (by Sync) y h = absurd (cc)
  arrives_none s r (by Guarded) y h = guard_none r s.guard y h
  arrives_none s r (by (Later priority policy)) y h = put_none (nat_lt (length s.pending) (queue_size t i)) (suc s.puts) r policy y h
  arrives_none s r (sets k) y h = absurd (cc)
  arrives_none s r (saves k) y h = absurd (cc)

  place_none : (s : Inside) (r : Arrival) (o : Option Manner) (y : Why) → option_and_then (arrival_waits t i s) o ≡ Some y → option_and_then (arrives t i s r) o ≡ None
  place_none s r None y h = refl
  place_none s r (Some m) y h = arrives_none s r m y h

  untold : (s : Inside) (q : Ask) (y : Why) → waits t i s q ≡ Some y → tells t program i s q ≡ None
  unfolding tells waits
  untold s (ask.Arrive r) y h = place_none s r (manner t i r.point) y h
  untold s ask.Take y h = takes_none s.turn None (Some why.QueueEmpty) (next_call s.pending) y (λ e. refl) h
  untold s ask.Dispatch y h = takes_none s.turn (Some what.Empty) None (next_call s.pending) y (λ e. absurd (cc)) h
  untold s (ask.Leave v) y h = absurd (cc)
  untold s ask.Done y h = absurd (cc)
  untold s (ask.Emit event with) y h = absurd (cc)
  untold s (ask.Write channel v) y h = absurd (cc)
  untold s (ask.Read param) y h = absurd (cc)
  untold s (ask.Advance running signal v) y h = absurd (cc)

  pub no_step : (s : InstanceState) (a seen : ℕ) (q : Ask) (y : Why) → waits t i s.inside q ≡ Some y → instance_part t program i s a q seen ≡ None
  unfolding instance_part
  no_step s a seen q y h =
      ap (λ (o : Option What). option_map (stamped t program (suc (max s.last seen)) a i s.inside) (option_and_then (fitting t program a i) o)) (untold s.inside q y h)
