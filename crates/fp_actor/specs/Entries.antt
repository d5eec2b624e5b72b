-- What an entry gives to its actor: the lists that it puts before it, the values that it hands on, and what it does to the frames.
use Rattle.std.specs.Prelude.{ℕ, Bool, false, is_some, List, [], ◌∷◌, Option, Some, None, option_map, unwrap_or, slice_get}
use Rattle.fp_base.specs.declared.value.Value.{Value, Opaque}
use Rattle.fp_tables.specs.Lookup.{Described}
use Rattle.fp_tables.specs.declared.machine.Named.{Named}
use Rattle.fp_tables.specs.declared.component.Special.TheVariants as special
use Rattle.fp_tables.specs.declared.program.Program.{Program}
use Rattle.fp_events.specs.declared.event.Point.{Point}
use Rattle.fp_events.specs.declared.event.Point.TheVariants.{Signal}
use Rattle.fp_events.specs.declared.event.Fate.{Fate}
use Rattle.fp_events.specs.declared.event.Fate.TheVariants.{Sent}
use Rattle.fp_events.specs.declared.event.What.{What}
use Rattle.fp_events.specs.declared.event.What.TheVariants as what
use Rattle.fp_tables.specs.Specials.{component}
use Rattle.fp_events.specs.Actor.{Doing}
use Rattle.fp_events.specs.Follows.{handling, hooking, returned, sends, performed, parameter_name, ok_note}

-- a value that an entry gives to be bound
abbrev pub value_given : What → Value
value_given (what.Leave (Some v)) = v
value_given (what.Read param v) = v
value_given _ = Opaque

abbrev pub first_of : List Value → Option Value
first_of [] = None
first_of (v ∷ vs) = Some v

abbrev pub signal_in : Point → List Value → Option Value
signal_in (Signal running signal) with = first_of with
signal_in _ with = None

-- the value of the signal that an entry hands on
abbrev pub signal_value : What → Option Value
signal_value (what.Enter r) = signal_in r.point r.with
signal_value (what.Guard r) = signal_in r.point r.with
signal_value (what.Take number point with) = signal_in point with
signal_value _ = None

-- whether an action takes a value
abbrev pub has_kind_at : Option Named → Bool
has_kind_at None = false
has_kind_at (Some x) = is_some x.kind

-- an entry of an arrival that opens a frame
abbrev pub IsOpening : What → Type 0
IsOpening (what.Enter r) = Unit {0}
IsOpening (what.Guard r) = Unit {0}
IsOpening (what.Set r) = Unit {0}
IsOpening (what.Save r value) = Unit {0}
IsOpening (what.Hooked r) = Unit {0}
IsOpening _ = ⊥

abbrev pub IsUnsent : Fate → Type 0
IsUnsent Sent = ⊥
IsUnsent _ = Unit {0}

-- an entry that removes an action and does nothing else
abbrev pub IsRemoving : What → Type 0
IsRemoving (what.Put number r) = Unit {0}
IsRemoving (what.Dropped r) = Unit {0}
IsRemoving what.Empty = Unit {0}
IsRemoving (what.Emit event fate text) = IsUnsent fate
IsRemoving (what.Write channel fate value) = IsUnsent fate
IsRemoving _ = ⊥

abbrev pub IsTaking : What → Type 0
IsTaking (what.Take number point with) = Unit {0}
IsTaking _ = ⊥

-- an emission or a write that was sent
abbrev pub IsSending : What → Type 0
IsSending (what.Emit event Sent text) = Unit {0}
IsSending (what.Write channel Sent value) = Unit {0}
IsSending _ = ⊥

-- a leave that returns a value
abbrev pub IsReturning : What → Type 0
IsReturning (what.Leave (Some v)) = Unit {0}
IsReturning _ = ⊥

abbrev pub IsReading : What → Type 0
IsReading (what.Read param value) = Unit {0}
IsReading _ = ⊥

abbrev pub IsStarting : What → Type 0
IsStarting (what.Start running actions leaf) = Unit {0}
IsStarting _ = ⊥

abbrev pub IsMoving : What → Type 0
IsMoving (what.Move running signal actions leaf) = Unit {0}
IsMoving _ = ⊥

-- an entry that puts one list before its actor, if any
abbrev pub IsOneList : What → Type 0
IsOneList (what.Start running actions leaf) = ⊥
IsOneList (what.Move running signal actions leaf) = ⊥
IsOneList _ = Unit {0}

module _ (t : Described) (program : Program) where
  abbrev pub event_name : ℕ → ℕ → List ℕ
  event_name i event = unwrap_or (option_map (λ e. e.name) (slice_get (component t i).events event)) []

  abbrev pub channel_name : ℕ → ℕ → List ℕ
  channel_name i channel = unwrap_or (option_map (λ c. c.name) (slice_get (component t i).channels channel)) []

  -- the lists that an entry at instance i puts before its actor, where a signal has this value
  abbrev pub lists_of : Option Value → ℕ → What → List Doing
  lists_of v i (what.Enter r) = handling t program i r.point r.with ∷ []
  lists_of v i (what.Guard r) = handling t program i r.point r.with ∷ []
  lists_of v i (what.Set r) = sends t program i ((special.CmdResp, ok_note) ∷ []) ∷ []
  lists_of v i (what.Save r value) = sends t program i ((special.PrmSet, parameter_name t program i r.point) ∷ (special.CmdResp, ok_note) ∷ []) ∷ []
  lists_of v i (what.Hooked r) = hooking t program i r.point r.with ∷ []
  lists_of v i (what.Take number point with) = handling t program i point with ∷ []
  lists_of v i (what.Emit event fate text) = sends t program i ((special.Event, event_name i event) ∷ []) ∷ []
  lists_of v i (what.Write channel fate value) = sends t program i ((special.Tlm, channel_name i channel) ∷ []) ∷ []
  lists_of v i (what.Start running actions leaf) = performed t program i running actions v
  lists_of v i (what.Move running signal actions leaf) = performed t program i running actions v
  lists_of v i _ = []

  -- what is returned where no action returns anything
  abbrev pub default_of : ℕ → What → Option Value
  default_of i (what.Enter r) = returned t program i r.point
  default_of i (what.Guard r) = returned t program i r.point
  default_of i _ = None
