-- The members of a component as a listing prints them, a line each. FPP Language Specification, "Component Definitions" and the sections
-- on the members of components. Set and save commands stand with their parameters.
use Rattle.std.specs.Prelude.{ℕ, ◌==◌, codes, decimal, List, [], ◌∷◌, ◌++◌, flat_map, Option, None, Some, option_map, slice_get}
use Rattle.std.specs.List.{find, enumerate_from}
use Rattle.fp_base.specs.Rendered.{quoted, value_text}
use Rattle.fp_tables.specs.Lists.{some_and}
use Rattle.fp_tables.specs.Components.{set_parameter, saved_parameter}
use Rattle.fp_tables.specs.declared.component.Channel.{Channel}
use Rattle.fp_tables.specs.declared.component.Command.{Command}
use Rattle.fp_tables.specs.declared.component.Component.{Component}
use Rattle.fp_tables.specs.declared.component.Event.{Event}
use Rattle.fp_tables.specs.declared.component.Param.{Param}
use Rattle.fp_tables.specs.declared.component.CommandPart.{CommandPart}
use Rattle.fp_tables.specs.declared.component.CommandPart.TheVariants as part
use Rattle.fp_tables.specs.declared.component.Port.{Port}
use Rattle.fp_tables.specs.declared.component.Queueing.{Queueing}
use Rattle.fp_tables.specs.declared.component.Queueing.TheVariants as queueing
use Rattle.fp_tables.specs.declared.component.Role.{Role}
use Rattle.fp_tables.specs.declared.component.Role.TheVariants as role
use Rattle.fp_tables.specs.declared.component.Running.{Running}
use Rattle.fp_tables.specs.declared.component.Special.{Special}
use Rattle.fp_tables.specs.declared.component.Special.TheVariants as special
use Rattle.fp_tables.specs.declared.component.Way.{Way}
use Rattle.fp_tables.specs.declared.kind.PortDef.{PortDef}
use Rattle.fp_tables.specs.declared.machine.Machine.{Machine}
use Rattle.fp_tables.specs.declared.model.Model.{Model}
use Rattle.fp_tables.specs.Words.{way_word, update_word}
use Rattle.fp_logtext.specs.Names.{or_nothing}
use Rattle.fp_listing.specs.Kinds.{kind_text, formals_text, queue_text}
use Rattle.fp_listing.specs.Definitions.{size_text}

abbrev pub special_words : Special → List ℕ
special_words special.CmdRecv = codes "command recv"
special_words special.CmdReg = codes "command reg"
special_words special.CmdResp = codes "command resp"
special_words special.Event = codes "event"
special_words special.TextEvent = codes "text event"
special_words special.Tlm = codes "telemetry"
special_words special.Time = codes "time get"
special_words special.PrmGet = codes "param get"
special_words special.PrmSet = codes "param set"

abbrev pub severities : List (List ℕ)
severities =
    codes "activity high" ∷ codes "activity low" ∷ codes "command" ∷ codes "diagnostic" ∷ codes "fatal" ∷ codes "warning high" ∷ codes "warning low" ∷ []

abbrev pub queueing_word : Queueing → List ℕ
queueing_word queueing.Active = codes "active"
queueing_word queueing.Passive = codes "passive"
queueing_word queueing.Queued = codes "queued"

abbrev pub throttle_text : Option ℕ → List ℕ
throttle_text None = []
throttle_text (Some n) = codes " throttle " ++ decimal n

-- the opcode of the first command that sets a parameter, or saves it
abbrev pub set_opcode : List Command → ℕ → Option ℕ
set_opcode cs k = option_map (λ (c : Command). c.opcode) (find (λ (c : Command). some_and (λ n. n == k) (set_parameter c)) cs)

abbrev pub save_opcode : List Command → ℕ → Option ℕ
save_opcode cs k = option_map (λ (c : Command). c.opcode) (find (λ (c : Command). some_and (λ n. n == k) (saved_parameter c)) cs)

-- an opcode behind its word
abbrev pub opcode_text : List ℕ → Option ℕ → List ℕ
opcode_text word None = []
opcode_text word (Some n) = word ++ decimal n

abbrev pub member_line : List ℕ → List ℕ
member_line text = codes "  " ++ text ++ codes "\n"

-- the name of a port at a position
abbrev pub port_named : List Port → ℕ → List ℕ
port_named ps k = or_nothing (option_map (λ (p : Port). p.name) (slice_get ps k))

abbrev pub match_text : List Port → ℕ × ℕ → List ℕ
match_text ps pair = codes "match " ++ port_named ps pair.0 ++ codes " with " ++ port_named ps pair.1

abbrev pub match_line : List Port → ℕ × ℕ → List ℕ
match_line ps pair = member_line (match_text ps pair)

module _ (m : Model) where
  -- the type of a general port: its port definition, or that it is serial
  abbrev pub port_type : Option ℕ → List ℕ
  port_type None = codes "serial"
  port_type (Some k) = or_nothing (option_map (λ (p : PortDef). p.name) (slice_get m.ports k))

  abbrev pub general_text : Port → List ℕ
  general_text p = codes " port " ++ p.name ++ codes ": " ++ size_text p.size ++ port_type p.of

  abbrev pub internal_text : Port → Way → List ℕ
  internal_text p w = codes "internal " ++ codes "port " ++ p.name ++ formals_text m.types p.formals ++ queue_text w

  abbrev pub role_text : Port → Role → List ℕ
  role_text p (role.Input w) = way_word w ++ codes " input" ++ general_text p ++ queue_text w
  role_text p role.Output = codes "output" ++ general_text p
  role_text p (role.Special s) = special_words s ++ codes " port " ++ p.name
  role_text p (role.Internal w) = internal_text p w

  abbrev pub member_port : Port → List ℕ
  member_port p = member_line (role_text p p.role)

  abbrev pub command_text : Command → List ℕ
  command_text c =
      way_word c.way ++ codes " command " ++ c.name ++ formals_text m.types c.formals ++ codes " opcode " ++ decimal c.opcode ++ queue_text c.way

  -- a command that is written in the component
  abbrev pub command_of : Command → CommandPart → List ℕ
  command_of c part.Plain = member_line (command_text c)
  command_of c _ = []

  abbrev pub command_line : Command → List ℕ
  command_line c = command_of c c.part

  -- a parameter, with the opcodes of the commands that set it and save it
  abbrev pub param_head : Param → List ℕ
  param_head p = codes "param " ++ p.name ++ codes ": " ++ kind_text m.types p.kind ++ codes " id " ++ decimal p.id

  abbrev pub param_text : Option ℕ → Option ℕ → Param → List ℕ
  param_text set save p = param_head p ++ opcode_text (codes " set ") set ++ opcode_text (codes " save ") save ++ codes " default " ++ value_text p.default

  abbrev pub param_with : Option ℕ → Option ℕ → Param → List ℕ
  param_with set save p = member_line (param_text set save p)

  -- a parameter at its position
  abbrev pub param_line : List Command → ℕ × Param → List ℕ
  param_line cs numbered = param_with (set_opcode cs numbered.0) (save_opcode cs numbered.0) numbered.1

  abbrev pub event_head : Event → List ℕ
  event_head e = codes "event " ++ e.name ++ formals_text m.types e.formals ++ codes " id " ++ decimal e.id

  abbrev pub event_text : Event → List ℕ
  event_text e = event_head e ++ codes " severity " ++ or_nothing (slice_get severities e.severity) ++ throttle_text e.throttle ++ codes " format " ++ quoted e.format

  abbrev pub event_line : Event → List ℕ
  event_line e = member_line (event_text e)

  abbrev pub channel_text : Channel → List ℕ
  channel_text c = codes "telemetry " ++ c.name ++ codes ": " ++ kind_text m.types c.kind ++ codes " id " ++ decimal c.id ++ codes " update " ++ update_word c

  abbrev pub channel_line : Channel → List ℕ
  channel_line c = member_line (channel_text c)

  abbrev pub machine_name : ℕ → List ℕ
  machine_name k = or_nothing (option_map (λ (x : Machine). x.name) (slice_get m.machines k))

  abbrev pub running_text : Running → List ℕ
  running_text r = codes "state " ++ codes "machine " ++ codes "instance " ++ r.name ++ codes ": " ++ machine_name r.machine ++ queue_text r.way

  abbrev pub running_line : Running → List ℕ
  running_line r = member_line (running_text r)

  -- a component and its members: ports, commands, parameters, events, channels, matches and machine instances
  abbrev pub component_lines : Component → List ℕ
  component_lines c =
      queueing_word c.queueing ++ codes " component " ++ c.name ++ codes "\n"
      ++ flat_map member_port c.ports
      ++ flat_map command_line c.commands
      ++ flat_map (param_line c.commands) (enumerate_from 0 c.params)
      ++ flat_map event_line c.events
      ++ flat_map channel_line c.channels
      ++ flat_map (match_line c.ports) c.matches
      ++ flat_map running_line c.machines
