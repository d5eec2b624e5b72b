-- The text of a log: a line for each entry, and one for the end.
-- The form of the log is this profile's own.
use Rattle.std.specs.Prelude.{ℕ, List, [], ◌∷◌, ◌++◌, ◌-◌, codes, decimal, map, flat_map, length, Option, Some, None, option_and_then, slice_get}
use Rattle.fp_base.specs.Rendered.{joined, quoted, value_text}
use Rattle.fp_base.specs.declared.value.Value.{Value}
use Rattle.fp_tables.specs.Lookup.{Described}
use Rattle.fp_tables.specs.declared.machine.Machine.{Machine}
use Rattle.fp_tables.specs.declared.program.Caller.{Caller}
use Rattle.fp_tables.specs.declared.program.Program.{Program}
use Rattle.fp_tables.specs.declared.model.Model.{Model}
use Rattle.fp_events.specs.Lookup.{actives}
use Rattle.fp_events.specs.declared.event.Point.{Point}
use Rattle.fp_events.specs.declared.event.Point.TheVariants.{Port, Command, Post, Signal}
use Rattle.fp_events.specs.declared.event.Origin.{Origin}
use Rattle.fp_events.specs.declared.event.Origin.TheVariants as origin
use Rattle.fp_events.specs.declared.event.Arrival.{Arrival}
use Rattle.fp_events.specs.declared.event.Fate.{Fate}
use Rattle.fp_events.specs.declared.event.Fate.TheVariants as fate
use Rattle.fp_events.specs.declared.event.What.{What}
use Rattle.fp_events.specs.declared.event.What.TheVariants as what
use Rattle.fp_events.specs.declared.event.Entry.{Entry}
use Rattle.fp_events.specs.declared.event.Finish.{Finish}
use Rattle.fp_events.specs.declared.event.Finish.TheVariants as finish
use Rattle.fp_logtext.specs.Names.{or_nothing, action_of, path_of, instance_name, port_name, command_name, event_name, channel_name, param_name, running_name, machine_at, signal_name, set_name, saved_name}

-- values in parentheses
abbrev pub values_text : List Value → List ℕ
values_text vs = codes "(" ++ joined (map value_text vs) ++ codes ")"

abbrev pub note_text : Option (List ℕ) → List ℕ
note_text None = []
note_text (Some name) = codes " as " ++ name

abbrev pub fate_text : Fate → List ℕ
fate_text fate.Sent = codes "sent"
fate_text fate.Held = codes "held"
fate_text fate.Same = codes "same"
fate_text fate.Unwired = codes "unwired"

abbrev pub returned_text : Option Value → List ℕ
returned_text None = []
returned_text (Some v) = codes " " ++ values_text (v ∷ [])

-- the actions of a start or a move, and the path of the leaf that it reaches
abbrev pub going_text : Option Machine → List ℕ → ℕ → List ℕ
going_text None actions leaf = codes "[] "
going_text (Some x) actions leaf = codes "[" ++ joined (map (λ a. or_nothing (action_of x a)) actions) ++ codes "] " ++ path_of x leaf

module _ (m : Model) where
  abbrev pub port_text : ℕ → ℕ → ℕ → List ℕ
  port_text i k number = or_nothing (port_name m i k) ++ codes "[" ++ decimal number ++ codes "]"

  abbrev pub point_text : ℕ → Point → List ℕ
  point_text i (Port k number) = port_text i k number
  point_text i (Command k) = codes "command " ++ or_nothing (command_name m i k)
  point_text i (Post k) = codes "post " ++ or_nothing (port_name m i k)
  point_text i (Signal running signal) = codes "signal " ++ or_nothing (running_name m i running) ++ codes "." ++ or_nothing (signal_name m i running signal)

  abbrev pub origin_text : Origin → List ℕ
  origin_text origin.Caller = codes "caller"
  origin_text origin.Own = codes "self"
  origin_text (origin.Wire e remark) = or_nothing (instance_name m e.instance) ++ codes "." ++ port_text e.instance e.port e.number ++ note_text remark

  abbrev pub via_text : Origin → List ℕ
  via_text from = codes " via " ++ origin_text from ++ codes " "

  abbrev pub arrival_text : ℕ → Arrival → List ℕ
  arrival_text i r = point_text i r.point ++ via_text r.origin ++ values_text r.with

  abbrev pub what_text : ℕ → What → List ℕ
  what_text i (what.Enter r) = codes "enter " ++ arrival_text i r
  what_text i (what.Guard r) = codes "guard " ++ arrival_text i r
  what_text i (what.Put number r) = codes "put " ++ decimal number ++ codes " " ++ arrival_text i r
  what_text i (what.Dropped r) = codes "drop " ++ arrival_text i r
  what_text i (what.Hooked r) = codes "hook " ++ arrival_text i r
  what_text i (what.Asserted r) = codes "assert " ++ arrival_text i r
  what_text i (what.Set r) = codes "set " ++ or_nothing (set_name m i r.point) ++ via_text r.origin ++ values_text r.with
  what_text i (what.Save r v) = codes "save " ++ or_nothing (saved_name m i r.point) ++ via_text r.origin ++ values_text (v ∷ [])
  what_text i (what.Leave v) = codes "leave" ++ returned_text v
  what_text i what.Done = codes "done"
  what_text i (what.Take number point vs) = codes "take " ++ decimal number ++ codes " " ++ point_text i point ++ codes " " ++ values_text vs
  what_text i what.Empty = codes "empty"
  what_text i (what.Emit event became text) = codes "emit " ++ or_nothing (event_name m i event) ++ codes " " ++ fate_text became ++ codes " " ++ quoted text
  what_text i (what.Write channel became v) = codes "write " ++ or_nothing (channel_name m i channel) ++ codes " " ++ fate_text became ++ codes " " ++ values_text (v ∷ [])
  what_text i (what.Read param v) = codes "read " ++ or_nothing (param_name m i param) ++ codes " " ++ values_text (v ∷ [])
  what_text i (what.Start running actions leaf) =
      codes "start " ++ or_nothing (running_name m i running) ++ codes " " ++ going_text (machine_at m i running) actions leaf
  what_text i (what.Move running signal actions leaf) =
      codes "move " ++ or_nothing (running_name m i running) ++ codes " " ++ or_nothing (signal_name m i running signal) ++ codes " " ++ going_text (machine_at m i running) actions leaf

  -- a caller by its name, a dispatcher by `@` and its instance's name
  abbrev pub actor_text : List Caller → List ℕ → ℕ → List ℕ
  actor_text named dispatchers a = by (slice_get named a)
    where
      by : Option Caller → List ℕ
      by (Some c) = c.name
      by None = codes "@" ++ or_nothing (option_and_then (instance_name m) (slice_get dispatchers (a - length named)))

  -- a line of an entry
  abbrev pub line : List Caller → List ℕ → Entry → List ℕ
  line named dispatchers e =
      decimal e.stamp ++ codes " " ++ actor_text named dispatchers e.actor ++ codes " " ++ or_nothing (instance_name m e.instance) ++ codes " " ++ what_text e.instance e.what ++ codes "\n"

abbrev pub finish_text : Finish → List ℕ
finish_text finish.Complete = codes "end complete\n"
finish_text finish.Stuck = codes "end stuck\n"
finish_text finish.Spent = codes "end spent\n"
finish_text finish.Asserted = codes "end asserted\n"

abbrev pub Log : Described → Program → List Entry → Finish → List ℕ
Log t program es f = flat_map (line t.model program.callers (actives t)) es ++ finish_text f
