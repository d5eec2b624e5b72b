-- Commands, parameters, events and telemetry channels as a dictionary says them.
-- F Prime GDS JSON Dictionary Specification, "Commands", "Parameters", "Events" and "Telemetry Channels". This profile: the key `limit`.
use Rattle.std.specs.Prelude.{ℕ, Bool, true, false, cond, not, codes, List, [], ◌∷◌, ◌++◌, ◌+◌, map, filter, slice_get, unwrap_or}
use Rattle.fp_tables.specs.declared.kind.Formal.{Formal}
use Rattle.fp_tables.specs.declared.kind.TypeDef.{TypeDef}
use Rattle.fp_tables.specs.declared.component.Channel.{Channel}
use Rattle.fp_tables.specs.declared.component.Command.{Command}
use Rattle.fp_tables.specs.declared.component.Event.{Event}
use Rattle.fp_tables.specs.declared.component.Full.TheVariants as full
use Rattle.fp_tables.specs.declared.component.Limit.{Limit}
use Rattle.fp_tables.specs.declared.component.Param.{Param}
use Rattle.fp_tables.specs.declared.component.CommandPart.{CommandPart}
use Rattle.fp_tables.specs.declared.component.CommandPart.TheVariants as part
use Rattle.fp_tables.specs.declared.component.Way.{Way}
use Rattle.fp_tables.specs.declared.component.Way.TheVariants as way
use Rattle.fp_tables.specs.declared.topology.Instance.{Instance}
use Rattle.fp_tables.specs.Words.{way_word, full_word, update_word}
use Rattle.serde_json.specs.Data.{Data, boolean, string}
use Rattle.fp_dictionary.specs.Objects.{Entry, object_of, list_of, natural, annotation, optional}
use Rattle.fp_dictionary.specs.Values.{number_data, value_data}
use Rattle.fp_dictionary.specs.Types.{descriptor}

-- the instance, a point, and the own name
abbrev pub name_in : Instance → List ℕ → Data
name_in i name = string (i.name ++ codes "." ++ name)

-- one that is written by its way, one that comes with a parameter by what it does
abbrev pub command_kind : Command → CommandPart → List ℕ
command_kind c part.Plain = way_word c.way
command_kind c (part.SetParam k) = codes "set"
command_kind c (part.SaveParam k) = codes "save"

abbrev pub queue_entries : Way → List Entry
queue_entries (way.Later priority f) = (codes "priority", number_data priority) ∷ (codes "queueFullBehavior", string (full_word f)) ∷ []
queue_entries _ = []

-- of an asynchronous command
abbrev pub queue_of : Command → CommandPart → List Entry
queue_of c part.Plain = queue_entries c.way
queue_of c _ = []

abbrev pub severities : List (List ℕ)
severities =
    codes "ACTIVITY_HI" ∷ codes "ACTIVITY_LO" ∷ codes "COMMAND" ∷ codes "DIAGNOSTIC" ∷ codes "FATAL" ∷ codes "WARNING_HI" ∷ codes "WARNING_LO" ∷ []

abbrev pub severity : ℕ → List ℕ
severity k = unwrap_or (slice_get severities k) []

abbrev pub colors : List (List ℕ)
colors = codes "yellow" ∷ codes "orange" ∷ codes "red" ∷ []

abbrev pub color : ℕ → List ℕ
color k = unwrap_or (slice_get colors k) []

abbrev pub on_side : Bool → Limit → Bool
on_side high l = cond high l.high (not l.high)

-- the limits from below, or those from above
abbrev pub side : Bool → List Limit → List Limit
side high limits = filter (on_side high) limits

abbrev pub color_entry : Limit → Entry
color_entry l = (color l.color, value_data l.value)

-- from colour to value
abbrev pub side_data : List Limit → Data
side_data limits = object_of (map color_entry limits)

abbrev pub side_entries : List ℕ → List Limit → List Entry
side_entries key [] = []
side_entries key (l ∷ ls) = (key, side_data (l ∷ ls)) ∷ []

abbrev pub limit_entries : List Limit → List Entry
limit_entries [] = []
limit_entries (l ∷ ls) =
    (codes "limit", object_of (side_entries (codes "low") (side false (l ∷ ls)) ++ side_entries (codes "high") (side true (l ∷ ls)))) ∷ []

-- a default is said where it is written
abbrev pub default_entries : Param → List Entry
default_entries p = cond p.written ((codes "default", value_data p.default) ∷ []) []

module _ (types : List TypeDef) where
  abbrev pub formal_entries : Formal → List Entry
  formal_entries f = (codes "name", string f.name) ∷ (codes "type", descriptor types f.kind) ∷ (codes "ref", boolean f.by_ref) ∷ annotation f.note

  abbrev pub formal_data : Formal → Data
  formal_data f = object_of (formal_entries f)

  abbrev pub formals_data : List Formal → Data
  formals_data fs = list_of (map formal_data fs)

  abbrev pub command_entries : Instance → Command → List Entry
  command_entries i c =
      (codes "name", name_in i c.name) ∷ (codes "commandKind", string (command_kind c c.part)) ∷ (codes "opcode", natural (i.base + c.opcode))
      ∷ (codes "formalParams", formals_data c.formals) ∷ queue_of c c.part ++ annotation c.note

  abbrev pub command_data : Instance → Command → Data
  command_data i c = object_of (command_entries i c)

  abbrev pub parameter_entries : Instance → Param → List Entry
  parameter_entries i p =
      (codes "name", name_in i p.name) ∷ (codes "type", descriptor types p.kind) ∷ (codes "id", natural (i.base + p.id)) ∷ default_entries p ++ annotation p.note

  abbrev pub parameter_data : Instance → Param → Data
  parameter_data i p = object_of (parameter_entries i p)

  abbrev pub event_entries : Instance → Event → List Entry
  event_entries i e =
      (codes "name", name_in i e.name) ∷ (codes "severity", string (severity e.severity)) ∷ (codes "formalParams", formals_data e.formals)
      ∷ (codes "id", natural (i.base + e.id)) ∷ (codes "format", string e.format) ∷ optional (codes "throttle") natural e.throttle ++ annotation e.note

  abbrev pub event_data : Instance → Event → Data
  event_data i e = object_of (event_entries i e)

  -- what each channel has
  abbrev pub channel_head : Instance → Channel → List Entry
  channel_head i t =
      (codes "name", name_in i t.name) ∷ (codes "type", descriptor types t.kind) ∷ (codes "id", natural (i.base + t.id))
      ∷ (codes "telemetryUpdate", string (update_word t)) ∷ []

  abbrev pub channel_entries : Instance → Channel → List Entry
  channel_entries i t = channel_head i t ++ (optional (codes "format") string t.format ++ limit_entries t.limits ++ annotation t.note)

  abbrev pub channel_data : Instance → Channel → Data
  channel_data i t = object_of (channel_entries i t)
