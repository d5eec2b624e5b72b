-- The names that stand in a log, none where a position names nothing.
use Rattle.std.specs.Prelude.{ℕ, Bool, codes, List, [], ◌++◌, flat_map, reverse, Option, None, option_map, option_and_then, unwrap_or, slice_get}
use Rattle.fp_tables.specs.Components.{set_parameter, saved_parameter}
use Rattle.fp_tables.specs.Lists.{some_and}
use Rattle.fp_tables.specs.Positions.{component_of, port_of}
use Rattle.fp_tables.specs.declared.component.Port.{Port}
use Rattle.fp_tables.specs.declared.component.Command.{Command}
use Rattle.fp_tables.specs.declared.component.Event.{Event}
use Rattle.fp_tables.specs.declared.component.Channel.{Channel}
use Rattle.fp_tables.specs.declared.component.Param.{Param}
use Rattle.fp_tables.specs.declared.component.Running.{Running}
use Rattle.fp_tables.specs.declared.component.Component.{Component}
use Rattle.fp_tables.specs.declared.machine.Machine.{Machine}
use Rattle.fp_tables.specs.declared.machine.Named.{Named}
use Rattle.fp_tables.specs.declared.machine.Vertex.{Vertex}
use Rattle.fp_tables.specs.declared.topology.Instance.{Instance}
use Rattle.fp_tables.specs.declared.model.Model.{Model}
use Rattle.fp_events.specs.Lookup.{is_active}
use Rattle.fp_events.specs.Machine.{parent, upward}
use Rattle.fp_events.specs.declared.event.Point.{Point}
use Rattle.fp_events.specs.declared.event.Point.TheVariants.{Command as OfCommand}

-- a name that there is, else nothing
abbrev pub or_nothing : Option (List ℕ) → List ℕ
or_nothing name = unwrap_or name []

-- ---- a machine's parts

abbrev pub signal_of : Machine → ℕ → Option (List ℕ)
signal_of x k = option_map (λ (n : Named). n.name) (slice_get x.signals k)

abbrev pub action_of : Machine → ℕ → Option (List ℕ)
action_of x k = option_map (λ (n : Named). n.name) (slice_get x.actions k)

abbrev pub vertex_of : Machine → ℕ → Option (List ℕ)
vertex_of x v = option_map (λ (n : Vertex). n.name) (slice_get x.vertices v)

-- a vertex's name and `.`
abbrev pub round_text : Machine → ℕ → List ℕ
round_text x v = or_nothing (vertex_of x v) ++ codes "."

-- the path of a vertex: those round it, the outermost first, and its own name
abbrev pub path_of : Machine → ℕ → List ℕ
path_of x v = flat_map (round_text x) (reverse (upward x (parent x v))) ++ or_nothing (vertex_of x v)

-- ---- an instance's parts

module _ (m : Model) where
  -- an instance of an active component
  abbrev pub is_active_at : ℕ → Bool
  is_active_at i = some_and (λ (c : Component). is_active c.queueing) (component_of m i)

  -- the qualified name
  abbrev pub instance_name : ℕ → Option (List ℕ)
  instance_name i = option_map (λ (x : Instance). x.name) (slice_get m.instances i)

  abbrev pub port_name : ℕ → ℕ → Option (List ℕ)
  port_name i k = option_map (λ (p : Port). p.name) (port_of m i k)

  abbrev pub command_at : ℕ → ℕ → Option Command
  command_at i k = option_and_then (λ (c : Component). slice_get c.commands k) (component_of m i)

  abbrev pub command_name : ℕ → ℕ → Option (List ℕ)
  command_name i k = option_map (λ (x : Command). x.name) (command_at i k)

  abbrev pub event_name : ℕ → ℕ → Option (List ℕ)
  event_name i k = option_map (λ (e : Event). e.name) (option_and_then (λ (c : Component). slice_get c.events k) (component_of m i))

  abbrev pub channel_name : ℕ → ℕ → Option (List ℕ)
  channel_name i k = option_map (λ (x : Channel). x.name) (option_and_then (λ (c : Component). slice_get c.channels k) (component_of m i))

  abbrev pub param_name : ℕ → ℕ → Option (List ℕ)
  param_name i k = option_map (λ (p : Param). p.name) (option_and_then (λ (c : Component). slice_get c.params k) (component_of m i))

  abbrev pub running_at : ℕ → ℕ → Option Running
  running_at i k = option_and_then (λ (c : Component). slice_get c.machines k) (component_of m i)

  abbrev pub running_name : ℕ → ℕ → Option (List ℕ)
  running_name i k = option_map (λ (r : Running). r.name) (running_at i k)

  -- the machine that a machine instance runs
  abbrev pub machine_at : ℕ → ℕ → Option Machine
  machine_at i k = option_and_then (λ (r : Running). slice_get m.machines r.machine) (running_at i k)

  abbrev pub signal_name : ℕ → ℕ → ℕ → Option (List ℕ)
  signal_name i k s = option_and_then (λ x. signal_of x s) (machine_at i k)

  -- of the parameter that the set command at a point sets
  abbrev pub set_name : ℕ → Point → Option (List ℕ)
  set_name i (OfCommand n) = option_and_then (param_name i) (option_and_then set_parameter (command_at i n))
  set_name i _ = None

  -- of the parameter that the save command at a point saves
  abbrev pub saved_name : ℕ → Point → Option (List ℕ)
  saved_name i (OfCommand n) = option_and_then (param_name i) (option_and_then saved_parameter (command_at i n))
  saved_name i _ = None
