-- The special ports of an instance, and what of it is found whatever it is.
use Rattle.std.specs.Prelude.{ℕ, Bool, false, [], position, Option, option_map, option_and_then, unwrap_or}
use Rattle.fp_tables.specs.Components.{same_special}
use Rattle.fp_tables.specs.Lookup.{Described, wire_from}
use Rattle.fp_tables.specs.Positions.{component_of}
use Rattle.fp_tables.specs.declared.component.Component.{Component}
use Rattle.fp_tables.specs.declared.component.Role.{Role}
use Rattle.fp_tables.specs.declared.component.Role.TheVariants as role
use Rattle.fp_tables.specs.declared.component.Special.{Special}
use Rattle.fp_tables.specs.declared.component.Queueing.TheVariants.{Passive}
use Rattle.fp_tables.specs.declared.topology.End.{End}

-- the component of an instance, one without parts where there is none
abbrev pub no_parts : Component
no_parts = record { name = []; queueing = Passive; ports = []; commands = []; events = []; channels = []; params = []; matches = []; machines = [] }

abbrev pub component : Described → ℕ → Component
component t i = unwrap_or (component_of t.model i) no_parts

abbrev pub is_special : Special → Role → Bool
is_special s (role.Special r) = same_special s r
is_special s _ = false

-- the first port of an instance that is special in this way
abbrev pub special_port : Described → ℕ → Special → Option ℕ
special_port t i s = position (λ p. is_special s p.role) (component t i).ports

-- both ends of the wire that begins there
abbrev pub special_wire : Described → ℕ → Special → Option (End × End)
special_wire t i s =
    option_and_then (λ port. let from : End = record { instance = i; port = port; number = 0 } in option_map (λ to. (from, to)) (wire_from t from)) (special_port t i s)
