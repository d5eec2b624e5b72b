-- How an instance treats what arrives at its places.
use Rattle.std.specs.Prelude.{ℕ, ℤ, pos, Option, Some, None, option_map, option_and_then, slice_get}
use Rattle.fp_tables.specs.Lookup.{Described}
use Rattle.fp_tables.specs.declared.component.Command.{Command}
use Rattle.fp_tables.specs.declared.component.CommandPart.{CommandPart}
use Rattle.fp_tables.specs.declared.component.CommandPart.TheVariants.{Plain, SetParam, SaveParam}
use Rattle.fp_tables.specs.declared.component.Role.{Role}
use Rattle.fp_tables.specs.declared.component.Role.TheVariants as role
use Rattle.fp_tables.specs.declared.component.Way.{Way}
use Rattle.fp_tables.specs.declared.component.Way.TheVariants.{Later}
use Rattle.fp_events.specs.declared.event.Point.{Point}
use Rattle.fp_events.specs.declared.event.Point.TheVariants.{Port, Command as OfCommand, Post, Signal}
use Rattle.fp_tables.specs.Specials.{component}

-- by the place's way: sync, guarded or asynchronous; or as the implied set or save command of a parameter
pub data Manner : Type 0 where
  by : Way → Manner
  sets : ℕ → Manner
  saves : ℕ → Manner

abbrev pub input_manner : Role → Option Manner
input_manner (role.Input way) = Some (by way)
input_manner _ = None

abbrev pub internal_manner : Role → Option Manner
internal_manner (role.Internal way) = Some (by way)
internal_manner _ = None

abbrev pub command_manner : Way → CommandPart → Manner
command_manner way Plain = by way
command_manner way (SetParam k) = sets k
command_manner way (SaveParam k) = saves k

-- none where the instance has no such place
abbrev pub manner : Described → ℕ → Point → Option Manner
manner t i (Port n number) = option_and_then (λ p. input_manner p.role) (slice_get (component t i).ports n)
manner t i (OfCommand n) = option_map (λ (c : Command). command_manner c.way c.part) (slice_get (component t i).commands n)
manner t i (Post n) = option_and_then (λ p. internal_manner p.role) (slice_get (component t i).ports n)
manner t i (Signal running signal) = option_map (λ r. by r.way) (slice_get (component t i).machines running)

abbrev pub priority_at : Option Manner → ℤ
priority_at (Some (by (Later priority policy))) = priority
priority_at _ = pos 0
