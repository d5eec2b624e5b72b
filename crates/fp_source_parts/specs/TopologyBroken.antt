-- The rules that the instances and the topologies of a source break, and those of numbering. FPP Language Specification, "Component Instance
-- Definitions", "Topology Definitions".
use Rattle.std.specs.Prelude.{List, []}
use Rattle.fp_base.specs.declared.refusal.Refusal.{Refusal}
use Rattle.fp_tree.specs.declared.source.Source.{Source}
use Rattle.fp_tables.specs.declared.component.Component.{Component}
use Rattle.fp_tables.specs.declared.kind.PortDef.{PortDef}
use Rattle.fp_tables.specs.declared.model.Model.{Model}
use Rattle.fp_tables.specs.declared.topology.Instance.{Instance}
use Rattle.fp_tables.specs.declared.topology.Topology.{Topology}
use Rattle.fp_written_parts.specs.declared.topology.WrittenDeployment.{WrittenDeployment}
use Rattle.fp_instances.specs.Broken.{InstancesBroken}
use Rattle.fp_instances.specs.Resolved.{AreInstances}
use Rattle.fp_source_parts.specs.declared.parts.Parts.{Parts}
use Rattle.fp_topologies.specs.Resolved.{AreTopologies}
use Rattle.fp_topologies.specs.Broken.{TopologiesBroken}
use Rattle.fp_numbering.specs.Wired.{NumbersBroken}
use Rattle.fp_source_parts.specs.TopologyBuilt.{IsDeployment}

-- a source has one list of ports, one of components, one of instances and one of topologies
pub record SourceInstancesBroken (source : Source) (f : Refusal) : Type 0 where
  pub parts : Parts
  pub written : WrittenDeployment
  pub are : IsDeployment source parts written
  pub broken : InstancesBroken parts.components written.instances f

pub record SourceTopologiesBroken (source : Source) (f : Refusal) : Type 0 where
  pub parts : Parts
  pub written : WrittenDeployment
  pub are : IsDeployment source parts written
  pub instances : List Instance
  pub built : AreInstances written.instances instances
  pub broken : TopologiesBroken parts.ports parts.components instances written.topologies f

-- all that numbering looks at of a model
abbrev pub deployed : List PortDef → List Component → List Instance → List Topology → Model
deployed ds cs xs os =
    record { constants = []; types = []; ports = ds; components = cs; machines = []; instances = xs; topologies = os; order = [] }

pub record SourceNumbersBroken (source : Source) (f : Refusal) : Type 0 where
  pub parts : Parts
  pub written : WrittenDeployment
  pub are : IsDeployment source parts written
  pub instances : List Instance
  pub built : AreInstances written.instances instances
  pub topologies : List Topology
  pub joined : AreTopologies parts.ports parts.components instances written.topologies topologies
  pub broken : NumbersBroken (deployed parts.ports parts.components instances topologies) f
