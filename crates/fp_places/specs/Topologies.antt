-- The names that stand in instances of components and in topologies, in source order. FPP Language Specification, "Component Instance
-- Definitions", "Topology Definitions" and "Connection Graph Specifiers".
use Rattle.std.specs.Prelude.{List, [], ◌∷◌, ◌++◌, flat_map}
use Rattle.fp_tree.specs.declared.name.Name.{Name}
use Rattle.fp_tree.specs.declared.instance.Phase.{Phase}
use Rattle.fp_tree.specs.declared.instance.Instance.{Instance}
use Rattle.fp_tree.specs.declared.topology.PortUse.{PortUse}
use Rattle.fp_tree.specs.declared.topology.Connection.{Connection}
use Rattle.fp_tree.specs.declared.topology.Target.{Target}
use Rattle.fp_tree.specs.declared.topology.TMember.{TMember}
use Rattle.fp_tree.specs.declared.topology.TMember.TheVariants as node
use Rattle.fp_tree.specs.declared.topology.Topology.{Topology}
use Rattle.fp_meaning.specs.Names.{in_optional}
use Rattle.fp_places.specs.Parts.{names_in_expression}

abbrev pub names_in_phase : Phase → List Name
names_in_phase p = names_in_expression p.phase

abbrev pub names_in_instance : Instance → List Name
names_in_instance i =
    i.name ∷ (i.of.names ++ names_in_expression i.base ++ in_optional names_in_expression i.queue ++ in_optional names_in_expression i.stack ++
    in_optional names_in_expression i.priority ++ in_optional names_in_expression i.cpu ++ flat_map names_in_phase i.phases)

abbrev pub names_in_port_use : PortUse → List Name
names_in_port_use p = p.of.names ++ in_optional names_in_expression p.number

abbrev pub names_in_connection : Connection → List Name
names_in_connection c = names_in_port_use c.from ++ names_in_port_use c.to

abbrev pub names_in_targets : List Target → List Name
names_in_targets ts = flat_map (λ target. target.of.names) ts

abbrev pub names_in_topology_member : TMember → List Name
names_in_topology_member (node.Instance i) = i.of.names
names_in_topology_member (node.Import i) = i.of.names
names_in_topology_member (node.Include i) = []
names_in_topology_member (node.Connections c) = c.name ∷ flat_map names_in_connection c.connections
names_in_topology_member (node.Pattern p) = p.of.names ++ in_optional names_in_targets p.targets

abbrev pub names_in_topology : Topology → List Name
names_in_topology t = t.name ∷ flat_map names_in_topology_member t.members
