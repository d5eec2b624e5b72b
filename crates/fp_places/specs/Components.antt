-- The names that stand in components and interfaces, in source order. FPP Language Specification, "Component Definitions", "Interface
-- Definitions" and the specifiers that these name.
use Rattle.std.specs.Prelude.{List, [], ◌∷◌, ◌++◌, flat_map}
use Rattle.fp_tree.specs.declared.name.Name.{Name}
use Rattle.fp_tree.specs.declared.name.Qual.{Qual}
use Rattle.fp_tree.specs.declared.dictionary.Limits.{Limits}
use Rattle.fp_tree.specs.declared.dictionary.Command.{Command}
use Rattle.fp_tree.specs.declared.dictionary.Event.{Event}
use Rattle.fp_tree.specs.declared.dictionary.Channel.{Channel}
use Rattle.fp_tree.specs.declared.dictionary.ParamDef.{ParamDef}
use Rattle.fp_tree.specs.declared.component.General.{General}
use Rattle.fp_tree.specs.declared.component.Internal.{Internal}
use Rattle.fp_tree.specs.declared.component.Running.{Running}
use Rattle.fp_tree.specs.declared.component.Part.{Part}
use Rattle.fp_tree.specs.declared.component.Part.TheVariants as part
use Rattle.fp_tree.specs.declared.component.Component.{Component}
use Rattle.fp_tree.specs.declared.component.InterfacePart.{InterfacePart}
use Rattle.fp_tree.specs.declared.component.InterfacePart.TheVariants as inner
use Rattle.fp_tree.specs.declared.component.Interface.{Interface}
use Rattle.fp_meaning.specs.Names.{in_optional}
use Rattle.fp_places.specs.Parts.{names_in_expression, names_in_type, names_in_formal, names_in_definition}
use Rattle.fp_places.specs.Machines.{names_in_machine}

abbrev pub names_in_general : General → List Name
names_in_general p = p.name ∷ (in_optional names_in_expression p.size ++ in_optional (λ (of : Qual). of.names) p.of ++ in_optional names_in_expression p.priority)

abbrev pub names_in_internal : Internal → List Name
names_in_internal p = p.name ∷ (flat_map names_in_formal p.formals ++ in_optional names_in_expression p.priority)

abbrev pub names_in_command : Command → List Name
names_in_command c = c.name ∷ (flat_map names_in_formal c.formals ++ in_optional names_in_expression c.opcode ++ in_optional names_in_expression c.priority)

abbrev pub names_in_event : Event → List Name
names_in_event e = e.name ∷ (flat_map names_in_formal e.formals ++ in_optional names_in_expression e.id ++ in_optional names_in_expression e.throttle)

abbrev pub names_in_limits : Limits → List Name
names_in_limits ls = flat_map (λ limit. names_in_expression limit.value) ls.limits

abbrev pub names_in_channel : Channel → List Name
names_in_channel c = c.name ∷ (names_in_type c.of ++ in_optional names_in_expression c.id ++ in_optional names_in_limits c.low ++ in_optional names_in_limits c.high)

abbrev pub names_in_param : ParamDef → List Name
names_in_param p =
    p.name ∷ (names_in_type p.of ++ in_optional names_in_expression p.default ++ in_optional names_in_expression p.id ++ in_optional names_in_expression p.set ++
    in_optional names_in_expression p.save)

abbrev pub names_in_running : Running → List Name
names_in_running r = r.name ∷ (r.of.names ++ in_optional names_in_expression r.priority)

abbrev pub names_in_part : Part → List Name
names_in_part (part.Def d) = names_in_definition d
names_in_part (part.Machine m) = names_in_machine m
names_in_part (part.General p) = names_in_general p
names_in_part (part.Special p) = p.name ∷ []
names_in_part (part.Internal p) = names_in_internal p
names_in_part (part.Command c) = names_in_command c
names_in_part (part.Event e) = names_in_event e
names_in_part (part.Channel c) = names_in_channel c
names_in_part (part.Param p) = names_in_param p
names_in_part (part.Match m) = m.first ∷ (m.second ∷ [])
names_in_part (part.Running r) = names_in_running r
names_in_part (part.Import i) = i.of.names
names_in_part (part.Include i) = []

abbrev pub names_in_component : Component → List Name
names_in_component c = c.name ∷ flat_map names_in_part c.parts

abbrev pub names_in_interface_part : InterfacePart → List Name
names_in_interface_part (inner.General p) = names_in_general p
names_in_interface_part (inner.Special p) = p.name ∷ []
names_in_interface_part (inner.Import i) = i.of.names

abbrev pub names_in_interface : Interface → List Name
names_in_interface i = i.name ∷ flat_map names_in_interface_part i.parts
