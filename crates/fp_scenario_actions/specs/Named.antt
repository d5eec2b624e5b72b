-- Positions by names.
use Rattle.std.specs.Prelude.{ℕ, Bool, cond, List, Option, Some, None, position, option_and_then, slice_get, is_some}
use Rattle.std.specs.Str.{bytes_eq}
use Rattle.fp_tables.specs.Lists.{some_and}
use Rattle.fp_tables.specs.Lookup.{Described, instance_named, place_of}
use Rattle.fp_tables.specs.declared.component.Port.{Port}
use Rattle.fp_tables.specs.declared.component.Command.{Command}
use Rattle.fp_tables.specs.declared.component.Event.{Event}
use Rattle.fp_tables.specs.declared.component.Channel.{Channel}
use Rattle.fp_tables.specs.declared.component.Param.{Param}
use Rattle.fp_tables.specs.declared.component.Running.{Running}
use Rattle.fp_tables.specs.declared.machine.Named.{Named}

abbrev pub port_named : List Port → List ℕ → Option ℕ
port_named ports name = position (λ (x : Port). bytes_eq x.name name) ports

abbrev pub command_named : List Command → List ℕ → Option ℕ
command_named commands name = position (λ (x : Command). bytes_eq x.name name) commands

abbrev pub event_named : List Event → List ℕ → Option ℕ
event_named events name = position (λ (x : Event). bytes_eq x.name name) events

abbrev pub channel_named : List Channel → List ℕ → Option ℕ
channel_named channels name = position (λ (x : Channel). bytes_eq x.name name) channels

abbrev pub param_named : List Param → List ℕ → Option ℕ
param_named params name = position (λ (x : Param). bytes_eq x.name name) params

abbrev pub running_named : List Running → List ℕ → Option ℕ
running_named machines name = position (λ (x : Running). bytes_eq x.name name) machines

-- a signal, an action or a guard
abbrev pub name_of : List Named → List ℕ → Option ℕ
name_of names name = position (λ (x : Named). bytes_eq x.name name) names

-- the port of the name, where it is for this
abbrev pub port_where : (Port → Bool) → List Port → List ℕ → Option ℕ
port_where test ports name = option_and_then (λ n. cond (some_and test (slice_get ports n)) (Some n) None) (port_named ports name)

-- the instance of the name, where it is one of the topology
abbrev pub placed_named : Described → List ℕ → Option ℕ
placed_named t name = option_and_then (λ i. cond (is_some (place_of t i)) (Some i) None) (instance_named t.model name)
