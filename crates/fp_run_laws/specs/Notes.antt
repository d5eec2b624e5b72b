-- When the note of an arrival fits its origin: it has one exactly where it comes along the wire of a special port, and that is a name.
use Rattle.std.specs.Prelude.{Bool, true, false, not, ◌&&◌, List, Option, Some, None}
use Rattle.fp_base.specs.Names.{is_name}
use Rattle.fp_tables.specs.Lists.{some_and}
use Rattle.fp_tables.specs.Positions.{port_of}
use Rattle.fp_tables.specs.declared.component.Port.{Port as PortOf}
use Rattle.fp_tables.specs.declared.component.Role.{Role}
use Rattle.fp_tables.specs.declared.component.Role.TheVariants as role
use Rattle.fp_tables.specs.declared.topology.End.{End}
use Rattle.fp_tables.specs.declared.model.Model.{Model}
use Rattle.fp_events.specs.declared.event.Origin.{Origin}
use Rattle.fp_events.specs.declared.event.Origin.TheVariants.{Caller, Own, Wire}
use Rattle.fp_events.specs.declared.event.Ask.{Ask}
use Rattle.fp_events.specs.declared.event.Ask.TheVariants as ask

abbrev pub is_special_role : Role → Bool
is_special_role (role.Special s) = true
is_special_role _ = false

abbrev pub is_special_end : Model → End → Bool
is_special_end m e = some_and (λ (p : PortOf). is_special_role p.role) (port_of m e.instance e.port)

abbrev pub note_fits : Model → Origin → Bool
note_fits m Caller = true
note_fits m Own = true
note_fits m (Wire e None) = not (is_special_end m e)
note_fits m (Wire e (Some name)) = is_special_end m e && is_name name

-- the note of an arrival fits; no other ask has one
abbrev pub ask_note_fits : Model → Ask → Bool
ask_note_fits m (ask.Arrive r) = note_fits m r.origin
ask_note_fits m _ = true
