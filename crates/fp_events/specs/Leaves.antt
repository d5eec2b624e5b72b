-- What an entry leaves in its instance.
use Rattle.std.specs.Prelude.{ℕ, suc, ◌-◌, cond, ◌==◌, List, [], ◌∷◌, ◌++◌, get_or, set, Option, Some, None, option_map, unwrap_or}
use Rattle.fp_base.specs.declared.value.Value.{Value}
use Rattle.fp_tables.specs.Lookup.{Described}
use Rattle.fp_tables.specs.declared.program.Program.{Program}
use Rattle.fp_events.specs.declared.event.Arrival.{Arrival}
use Rattle.fp_events.specs.declared.event.Fate.{Fate}
use Rattle.fp_events.specs.declared.event.Fate.TheVariants.{Held}
use Rattle.fp_events.specs.declared.event.What.{What}
use Rattle.fp_events.specs.declared.event.What.TheVariants as what
use Rattle.fp_events.specs.Lookup.{machine}
use Rattle.fp_events.specs.Machine.{Configuration}
use Rattle.fp_events.specs.Instance.{Inside, Pending, Holding}
use Rattle.fp_events.specs.Manners.{Manner, sets, manner, priority_at}
use Rattle.fp_events.specs.Queue.{without}
use Rattle.fp_events.specs.Tells.{goes_on, configuration_of}

-- one frame more where this actor holds the guard
abbrev pub counted : ℕ → Option Holding → Option Holding
counted a None = None
counted a (Some held) = cond (held.actor == a) (Some (record { actor = a; frames = suc held.frames })) (Some held)

-- where this actor holds the guard it is freed at count 0, else it is one frame less
abbrev pub freed : ℕ → Option Holding → Option Holding
freed a None = None
freed a (Some held) = cond (held.actor == a) (cond (held.frames == 0) None (Some (record { actor = a; frames = held.frames - 1 }))) (Some held)

-- where this actor holds the turn it is freed
abbrev pub turn_freed : ℕ → Option ℕ → Option ℕ
turn_freed a None = None
turn_freed a (Some holder) = cond (holder == a) None (Some holder)

-- the parameter that a set command sets, with its argument
abbrev pub with_set : List Value → Option Manner → List Value → List Value
with_set params (Some (sets k)) (v ∷ vs) = set params k v
with_set params _ _ = params

-- one more of the event unless it was held
abbrev pub raised : List ℕ → ℕ → Fate → List ℕ
raised counts event Held = counts
raised counts event _ = set counts event (suc (get_or counts event 0))

module _ (t : Described) (program : Program) (i : ℕ) where
  abbrev pub pending_call : ℕ → Arrival → Pending
  pending_call number r = record { number = number; priority = priority_at (manner t i r.point); point = r.point; with = r.with }

  abbrev pub after_going : Inside → ℕ → ℕ → List (Option Configuration)
  after_going s running signal =
      unwrap_or (option_map (λ m. set s.machines running (Some (goes_on t program i running signal (configuration_of s running) m).reached)) (machine t i running)) s.machines

  -- what an entry of this actor leaves in the instance
  unfoldable pub leaves : Inside → ℕ → What → Inside
  -- enter: where this actor holds the guard, its count of frames rises
  leaves s a (what.Enter r) = record s { guard = counted a s.guard }
  -- guard: this actor holds it, with count 0
  leaves s a (what.Guard r) = record s { guard = Some (record { actor = a; frames = 0 }) }
  -- set: the parameter has the argument; set and save: the count as for enter
  leaves s a (what.Set r) = record s { guard = counted a s.guard; params = with_set s.params (manner t i r.point) r.with }
  leaves s a (what.Save r value) = record s { guard = counted a s.guard }
  -- put: the call is appended
  leaves s a (what.Put number r) = record s { pending = s.pending ++ pending_call number r ∷ []; puts = number }
  -- drop, assert: no change
  leaves s a (what.Dropped r) = s
  leaves s a (what.Asserted r) = s
  -- hook: the call isn't put, and the count as for enter
  leaves s a (what.Hooked r) = record s { guard = counted a s.guard }
  -- leave: where this actor holds the guard, it is freed at count 0, else the count falls
  leaves s a (what.Leave v) = record s { guard = freed a s.guard }
  -- done: where this actor holds the turn, it is freed
  leaves s a what.Done = record s { turn = turn_freed a s.turn }
  -- take: the call is removed, and this actor holds the turn
  leaves s a (what.Take number point with) = record s { pending = without number s.pending; turn = Some a }
  -- empty: no change
  leaves s a what.Empty = s
  -- emit: the count rises unless held
  leaves s a (what.Emit event fate text) = record s { counts = raised s.counts event fate }
  -- write: the value is kept
  leaves s a (what.Write channel fate value) = record s { channels = set s.channels channel (Some value) }
  -- read: no change
  leaves s a (what.Read param value) = s
  -- start, move: the configuration that the machine reaches
  leaves s a (what.Start running actions leaf) = record s { machines = after_going s running 0 }
  leaves s a (what.Move running signal actions leaf) = record s { machines = after_going s running signal }
