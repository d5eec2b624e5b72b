-- The expressions in whose place a number is wanted, in what belongs to a definition, in source order: sizes, priorities, identifiers,
-- opcodes, and the numbers of ports. The default of a parameter and the value of a limit are converted to a type, and are none of them.
-- FPP Language Specification, "Component Definitions", "Port Interface Definitions", "Component Instance Definitions", "Connection Graph
-- Specifiers".
use Rattle.std.specs.Prelude.{List, [], ◌∷◌, ◌++◌, flat_map}
use Rattle.fp_tree.specs.declared.expression.Expr.{Expr}
use Rattle.fp_tree.specs.declared.component.General.{General}
use Rattle.fp_tree.specs.declared.component.Part.{Part}
use Rattle.fp_tree.specs.declared.component.Part.TheVariants as part
use Rattle.fp_tree.specs.declared.component.InterfacePart.{InterfacePart}
use Rattle.fp_tree.specs.declared.component.InterfacePart.TheVariants as interface_part
use Rattle.fp_tree.specs.declared.instance.Instance.{Instance}
use Rattle.fp_tree.specs.declared.topology.TMember.{TMember}
use Rattle.fp_tree.specs.declared.topology.TMember.TheVariants as topology_member
use Rattle.fp_tree.specs.declared.topology.Connection.{Connection}
use Rattle.fp_meaning.specs.Sites.{ModelDef, machine, component, interface, instance, topology}
use Rattle.fp_part_values.specs.Names.{written}

abbrev pub general_numbers : General → List Expr
general_numbers p = written p.size ++ written p.priority

abbrev pub part_numbers : Part → List Expr
part_numbers (part.General p) = general_numbers p
part_numbers (part.Internal p) = written p.priority
part_numbers (part.Command c) = written c.opcode ++ written c.priority
part_numbers (part.Event e) = written e.id ++ written e.throttle
part_numbers (part.Channel t) = written t.id
part_numbers (part.Param p) = written p.id ++ written p.set ++ written p.save
part_numbers (part.Running r) = written r.priority
part_numbers _ = []

abbrev pub interface_part_numbers : InterfacePart → List Expr
interface_part_numbers (interface_part.General p) = general_numbers p
interface_part_numbers _ = []

abbrev pub instance_numbers : Instance → List Expr
instance_numbers d = d.base ∷ (written d.queue ++ written d.stack ++ written d.priority ++ written d.cpu)

abbrev pub connection_numbers : Connection → List Expr
connection_numbers c = written c.from.number ++ written c.to.number

abbrev pub topology_member_numbers : TMember → List Expr
topology_member_numbers (topology_member.Connections cs) = flat_map connection_numbers cs.connections
topology_member_numbers _ = []

abbrev pub numbers_of : ModelDef → List Expr
numbers_of (machine d) = []
numbers_of (component d) = flat_map part_numbers d.parts
numbers_of (interface d) = flat_map interface_part_numbers d.parts
numbers_of (instance d) = instance_numbers d
numbers_of (topology d) = flat_map topology_member_numbers d.members
