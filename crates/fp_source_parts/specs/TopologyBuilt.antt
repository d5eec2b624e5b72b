-- What the instances and topologies of a source come to. FPP Language Specification, "Definitions".
use Rattle.std.specs.Prelude.{List}
use Rattle.fp_tree.specs.declared.source.Source.{Source}
use Rattle.fp_tables.specs.declared.component.Component.{Component}
use Rattle.fp_tables.specs.declared.kind.PortDef.{PortDef}
use Rattle.fp_tables.specs.declared.topology.Instance.{Instance}
use Rattle.fp_tables.specs.declared.topology.Topology.{Topology}
use Rattle.fp_type_sizes.specs.declared.written.WrittenType.{WrittenType}
use Rattle.fp_type_forms.specs.Written.{AreWritten}
use Rattle.fp_written_parts.specs.declared.topology.WrittenDeployment.{WrittenDeployment}
use Rattle.fp_instances.specs.Resolved.{AreInstances}
use Rattle.fp_source_parts.specs.Built.{ArePartsOf}
use Rattle.fp_source_parts.specs.declared.parts.Parts.{Parts}
use Rattle.fp_topology_forms.specs.Written.{IsWrittenDeployment}
use Rattle.fp_topologies.specs.Resolved.{AreTopologies}

-- in source order
pub record AreInstancesOf (source : Source) (xs : List Instance) : Type 0 where
  pub written : WrittenDeployment
  pub are : IsWrittenDeployment source written
  pub instances : AreInstances written.instances xs

-- over these definitions of ports, components and instances; of the numbers of connections nothing is said here
pub record AreTopologiesOf (source : Source) (ds : List PortDef) (cs : List Component) (xs : List Instance) (os : List Topology) : Type 0 where
  pub written : WrittenDeployment
  pub are : IsWrittenDeployment source written
  pub topologies : AreTopologies ds cs xs written.topologies os

-- what is written of the types, the ports and components, and what is written of instances and topologies
pub record IsDeployment (source : Source) (parts : Parts) (w : WrittenDeployment) : Type 0 where
  pub types : List WrittenType
  pub written : AreWritten source types
  pub are : ArePartsOf source types parts
  pub deployment : IsWrittenDeployment source w
