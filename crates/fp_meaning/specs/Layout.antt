-- A source laid out flat, in source order: what it defines, each with the value that it is given, and the names and the expressions that
-- its definitions have beside that. FPP Language Specification, "Definitions".
-- The units stand in their order and the members in theirs, and what a module has stands in its place, under the module's name. An include
-- has been replaced by the members that it stands for, and `locate` defines nothing and its name isn't looked up. A component's name goes
-- into the scope of the definitions inside it; machines, interfaces, instances and topologies are no scopes, and what is defined in them
-- belongs to them alone. This profile: the names and expressions of a component's own parts stand before the definitions inside it, so
-- that they lie together, and of phases nothing is laid out.
use Rattle.std.specs.Prelude.{ℕ, suc, List, [], ◌∷◌, ◌++◌, length, flat_map, Option}
use Rattle.fp_tree.specs.declared.source.Source.{Source}
use Rattle.fp_tree.specs.declared.member.Unit.{Unit as File}
use Rattle.fp_tree.specs.declared.member.Member.{Member, Member-F, fold-Member}
use Rattle.fp_tree.specs.declared.member.Member.TheOpen as member
use Rattle.fp_tree.specs.declared.member.Module.{Module-F}
use Rattle.fp_tree.specs.declared.definition.Def.{Def}
use Rattle.fp_tree.specs.declared.definition.Def.TheVariants as def
use Rattle.fp_tree.specs.declared.definition.Array.{Array}
use Rattle.fp_tree.specs.declared.definition.Struct.{Struct}
use Rattle.fp_tree.specs.declared.definition.Enum.{Enum}
use Rattle.fp_tree.specs.declared.definition.Port.{Port as PortDef}
use Rattle.fp_tree.specs.declared.expression.Expr.{Expr}
use Rattle.fp_tree.specs.declared.type_name.TypeName.{TypeName}
use Rattle.fp_tree.specs.declared.type_name.TypeForm.{TypeForm}
use Rattle.fp_tree.specs.declared.type_name.TypeForm.TheVariants as type
use Rattle.fp_tree.specs.declared.part.EnumConst.{EnumConst}
use Rattle.fp_tree.specs.declared.part.Field.{Field}
use Rattle.fp_tree.specs.declared.part.Formal.{Formal}
use Rattle.fp_tree.specs.declared.name.Qual.{Qual}
use Rattle.fp_tree.specs.declared.machine.Machine.{Machine}
use Rattle.fp_tree.specs.declared.machine.Behavior.{Behavior}
use Rattle.fp_tree.specs.declared.machine.BehaviorElement.{BehaviorElement}
use Rattle.fp_tree.specs.declared.machine.ElementForm.{ElementForm}
use Rattle.fp_tree.specs.declared.machine.ElementForm.TheVariants as element
use Rattle.fp_tree.specs.declared.machine.TypedName.{TypedName}
use Rattle.fp_tree.specs.declared.component.Component.{Component}
use Rattle.fp_tree.specs.declared.component.Part.{Part}
use Rattle.fp_tree.specs.declared.component.Part.TheVariants as part
use Rattle.fp_tree.specs.declared.component.General.{General}
use Rattle.fp_tree.specs.declared.component.Internal.{Internal}
use Rattle.fp_tree.specs.declared.component.Running.{Running}
use Rattle.fp_tree.specs.declared.component.Interface.{Interface}
use Rattle.fp_tree.specs.declared.component.InterfacePart.{InterfacePart}
use Rattle.fp_tree.specs.declared.component.InterfacePart.TheVariants as interface_part
use Rattle.fp_tree.specs.declared.dictionary.Command.{Command}
use Rattle.fp_tree.specs.declared.dictionary.Event.{Event}
use Rattle.fp_tree.specs.declared.dictionary.Channel.{Channel}
use Rattle.fp_tree.specs.declared.dictionary.Limits.{Limits}
use Rattle.fp_tree.specs.declared.dictionary.Limit.{Limit}
use Rattle.fp_tree.specs.declared.dictionary.ParamDef.{ParamDef}
use Rattle.fp_tree.specs.declared.instance.Instance.{Instance}
use Rattle.fp_tree.specs.declared.topology.Topology.{Topology}
use Rattle.fp_tree.specs.declared.topology.TMember.{TMember}
use Rattle.fp_tree.specs.declared.topology.TMember.TheVariants as topology_member
use Rattle.fp_tree.specs.declared.topology.Connection.{Connection}
use Rattle.fp_tree.specs.declared.topology.PortUse.{PortUse}
use Rattle.fp_tree.specs.declared.topology.PatternConnections.{PatternConnections}
use Rattle.fp_tree.specs.declared.topology.Target.{Target}
use Rattle.fp_meaning.specs.declared.group.Group.{Group}
use Rattle.fp_meaning.specs.declared.group.Group.TheVariants.{Kind, Port, Component as ComponentGroup, Instance as InstanceGroup, Topology as TopologyGroup, Machine as MachineGroup, Interface as InterfaceGroup}
use Rattle.fp_meaning.specs.declared.item.Item.{Item}
use Rattle.fp_meaning.specs.declared.item.Item.TheVariants as item
use Rattle.fp_meaning.specs.Sites.{Path, in_optional, site, entry, ModelDef, machine, component, interface, instance, topology, declaration, naming, port_naming, placed}

-- The items of each kind of node in a scope. The number at a name or an expression says how many definitions stand between it and the
-- definition that has it.
abbrev pub expression_items : ℕ → Path → Expr → List Item
expression_items since scope e = item.Written since (placed scope e) ∷ []

abbrev pub type_form_items : ℕ → Path → TypeForm → List Item
type_form_items since scope (type.Text size) = in_optional (expression_items since scope) size
type_form_items since scope (type.Use name) = item.Used since (naming Kind scope name) ∷ []
type_form_items since scope _ = []

abbrev pub type_items : ℕ → Path → TypeName → List Item
type_items since scope t = type_form_items since scope t.form

abbrev pub field_items : Path → Field → List Item
field_items scope f = in_optional (expression_items 0 scope) f.size ++ type_items 0 scope f.of

abbrev pub formal_items : Path → Formal → List Item
formal_items scope f = type_items 0 scope f.of

abbrev pub constant_items : Path → Enum → ℕ → List EnumConst → List Item
constant_items scope e position [] = []
constant_items scope e position (c ∷ cs) = item.Enumerated (entry scope e position c) ∷ constant_items scope e (suc position) cs

abbrev pub array_items : Path → Array → List Item
array_items scope d = expression_items 0 scope d.size ++ type_items 0 scope d.element ++ in_optional (expression_items 0 scope) d.default

abbrev pub struct_items : Path → Struct → List Item
struct_items scope d = flat_map (field_items scope) d.fields ++ in_optional (expression_items 0 scope) d.default

-- the constants are definitions, so that they stand between an enumeration and its default
abbrev pub enum_items : Path → Enum → List Item
enum_items scope d =
    in_optional (type_items 0 scope) d.repr ++ constant_items scope d 0 d.constants ++ in_optional (expression_items (length d.constants) scope) d.default

abbrev pub port_items : Path → PortDef → List Item
port_items scope d = flat_map (formal_items scope) d.formals ++ in_optional (type_items 0 scope) d.result

-- what stands in a definition
abbrev pub part_items : Path → Def → List Item
part_items scope (def.Constant d) = []
part_items scope (def.Abstract d) = []
part_items scope (def.Alias d) = type_items 0 scope d.target
part_items scope (def.Array d) = array_items scope d
part_items scope (def.Struct d) = struct_items scope d
part_items scope (def.Enum d) = enum_items scope d
part_items scope (def.Port d) = port_items scope d

abbrev pub items_in : Path → Def → List Item
items_in scope d = item.Defined (site scope d) ∷ part_items scope d

-- ---- machines

abbrev pub typed_items : Path → TypedName → List Item
typed_items scope t = in_optional (type_items 0 scope) t.of

-- the types of signals, actions and guards; the other names of a machine belong to it alone
abbrev pub element_form_items : Path → ElementForm → List Item
element_form_items scope (element.Signal t) = typed_items scope t
element_form_items scope (element.Action t) = typed_items scope t
element_form_items scope (element.Guard t) = typed_items scope t
element_form_items scope _ = []

abbrev pub element_items : Path → BehaviorElement → List Item
element_items scope e = element_form_items scope e.form

abbrev pub behavior_items : Path → Behavior → List Item
behavior_items scope b = flat_map (element_items scope) b.elements

abbrev pub machine_items : Path → Machine → List Item
machine_items scope d = item.Declared (declaration scope (machine d)) ∷ in_optional (behavior_items scope) d.behavior

-- ---- components and interfaces

abbrev pub use_items : Group → Path → Qual → List Item
use_items group scope name = item.Used 0 (naming group scope name) ∷ []

abbrev pub value_items : Path → Option Expr → List Item
value_items scope e = in_optional (expression_items 0 scope) e

abbrev pub formals_items : Path → List Formal → List Item
formals_items scope fs = flat_map (formal_items scope) fs

abbrev pub general_items : Path → General → List Item
general_items scope p = value_items scope p.size ++ in_optional (use_items Port scope) p.of ++ value_items scope p.priority

abbrev pub internal_items : Path → Internal → List Item
internal_items scope p = formals_items scope p.formals ++ value_items scope p.priority

abbrev pub command_items : Path → Command → List Item
command_items scope c = formals_items scope c.formals ++ value_items scope c.opcode ++ value_items scope c.priority

abbrev pub event_items : Path → Event → List Item
event_items scope e = formals_items scope e.formals ++ value_items scope e.id ++ value_items scope e.throttle

abbrev pub limit_items : Path → Limit → List Item
limit_items scope l = expression_items 0 scope l.value

abbrev pub limits_items : Path → Limits → List Item
limits_items scope ls = flat_map (limit_items scope) ls.limits

abbrev pub channel_items : Path → Channel → List Item
channel_items scope t = type_items 0 scope t.of ++ value_items scope t.id ++ in_optional (limits_items scope) t.low ++ in_optional (limits_items scope) t.high

abbrev pub param_items : Path → ParamDef → List Item
param_items scope p = type_items 0 scope p.of ++ value_items scope p.default ++ value_items scope p.id ++ value_items scope p.set ++ value_items scope p.save

abbrev pub running_items : Path → Running → List Item
running_items scope r = use_items MachineGroup scope r.of ++ value_items scope r.priority

-- the names and expressions of a part; a definition inside the component stands by itself
abbrev pub own_items : Path → Part → List Item
own_items scope (part.General p) = general_items scope p
own_items scope (part.Internal p) = internal_items scope p
own_items scope (part.Command c) = command_items scope c
own_items scope (part.Event e) = event_items scope e
own_items scope (part.Channel t) = channel_items scope t
own_items scope (part.Param p) = param_items scope p
own_items scope (part.Running r) = running_items scope r
own_items scope (part.Import i) = use_items InterfaceGroup scope i.of
own_items scope _ = []

-- the definitions inside a component
abbrev pub inner_items : Path → Part → List Item
inner_items scope (part.Def d) = items_in scope d
inner_items scope (part.Machine d) = machine_items scope d
inner_items scope _ = []

-- the scope of what stands in a component
abbrev pub component_scope : Path → Component → Path
component_scope scope c = scope ++ c.name.text ∷ []

abbrev pub component_items : Path → Component → List Item
component_items scope c =
    (item.Declared (declaration scope (component c)) ∷ flat_map (own_items (component_scope scope c)) c.parts)
    ++ flat_map (inner_items (component_scope scope c)) c.parts

abbrev pub interface_part_items : Path → InterfacePart → List Item
interface_part_items scope (interface_part.General p) = general_items scope p
interface_part_items scope (interface_part.Special p) = []
interface_part_items scope (interface_part.Import i) = use_items InterfaceGroup scope i.of

abbrev pub interface_items : Path → Interface → List Item
interface_items scope d = item.Declared (declaration scope (interface d)) ∷ flat_map (interface_part_items scope) d.parts

-- ---- instances and topologies

abbrev pub instance_items : Path → Instance → List Item
instance_items scope d =
    item.Declared (declaration scope (instance d)) ∷ (use_items ComponentGroup scope d.of ++ expression_items 0 scope d.base
    ++ value_items scope d.queue ++ value_items scope d.stack ++ value_items scope d.priority ++ value_items scope d.cpu)

abbrev pub port_use_items : Path → PortUse → List Item
port_use_items scope u = item.Used 0 (port_naming scope u) ∷ value_items scope u.number

abbrev pub connection_items : Path → Connection → List Item
connection_items scope c = port_use_items scope c.from ++ port_use_items scope c.to

abbrev pub target_items : Path → Target → List Item
target_items scope t = use_items InstanceGroup scope t.of

abbrev pub targets_items : Path → List Target → List Item
targets_items scope ts = flat_map (target_items scope) ts

abbrev pub pattern_items : Path → PatternConnections → List Item
pattern_items scope p = use_items InstanceGroup scope p.of ++ in_optional (targets_items scope) p.targets

abbrev pub topology_member_items : Path → TMember → List Item
topology_member_items scope (topology_member.Instance u) = use_items InstanceGroup scope u.of
topology_member_items scope (topology_member.Import i) = use_items TopologyGroup scope i.of
topology_member_items scope (topology_member.Include i) = []
topology_member_items scope (topology_member.Connections cs) = flat_map (connection_items scope) cs.connections
topology_member_items scope (topology_member.Pattern p) = pattern_items scope p

abbrev pub topology_items : Path → Topology → List Item
topology_items scope d = item.Declared (declaration scope (topology d)) ∷ flat_map (topology_member_items scope) d.members

-- ---- of each kind, with the names and expressions that are its own

abbrev pub model_own_items : Path → ModelDef → List Item
model_own_items scope (machine d) = in_optional (behavior_items scope) d.behavior
model_own_items scope (component d) = flat_map (own_items (component_scope scope d)) d.parts
model_own_items scope (interface d) = flat_map (interface_part_items scope) d.parts
model_own_items scope (instance d) =
    use_items ComponentGroup scope d.of ++ expression_items 0 scope d.base
    ++ value_items scope d.queue ++ value_items scope d.stack ++ value_items scope d.priority ++ value_items scope d.cpu
model_own_items scope (topology d) = flat_map (topology_member_items scope) d.members

abbrev pub model_items : Path → ModelDef → List Item
model_items scope d = item.Declared (declaration scope d) ∷ model_own_items scope d

-- ---- a whole source

abbrev pub member_step : Member-F (Path → List Item) (Path → List Item) → Path → List Item
member_step (member.Module m) scope = m scope
member_step (member.Def d) scope = items_in scope d
member_step (member.Machine d) scope = machine_items scope d
member_step (member.Component d) scope = component_items scope d
member_step (member.Interface d) scope = interface_items scope d
member_step (member.Instance d) scope = instance_items scope d
member_step (member.Topology d) scope = topology_items scope d
member_step _ scope = []

abbrev pub module_step : Module-F (Path → List Item) (Path → List Item) → Path → List Item
module_step m scope = flat_map (λ inner. inner (scope ++ m.name.text ∷ [])) m.members

abbrev pub in_member : Path → Member → List Item
in_member scope m = fold-Member (Path → List Item) (Path → List Item) member_step module_step m scope

abbrev pub in_members : Path → List Member → List Item
in_members scope ms = flat_map (in_member scope) ms

abbrev pub items : Source → List Item
items source = flat_map (λ (u : File). in_members [] u.members) source.units
