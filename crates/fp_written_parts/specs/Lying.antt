-- Where positions are those of components, instances and topologies that are there.
use Rattle.std.specs.Prelude.{◌≡◌, ℕ, ◌<◌, List, length, slice_get, Some}
use Rattle.fp_written_parts.specs.declared.instance.WrittenInstance.{WrittenInstance}
use Rattle.fp_written_parts.specs.declared.topology.ImportedTopology.{ImportedTopology}
use Rattle.fp_written_parts.specs.declared.topology.MemberInstance.{MemberInstance}
use Rattle.fp_written_parts.specs.declared.topology.UsedInstance.{UsedInstance}
use Rattle.fp_written_parts.specs.declared.topology.WrittenConnection.{WrittenConnection}
use Rattle.fp_written_parts.specs.declared.topology.WrittenDeployment.{WrittenDeployment}
use Rattle.fp_written_parts.specs.declared.topology.WrittenPattern.{WrittenPattern}
use Rattle.fp_written_parts.specs.declared.topology.WrittenTopology.{WrittenTopology}

-- each instance is of one of so many components
abbrev pub ComponentsLie : ℕ → List WrittenInstance → Type 0
ComponentsLie components is = (k : ℕ) (i : WrittenInstance) → slice_get is k ≡ Some i → i.component < components

-- among so many instances and so many topologies
pub record TopologyLies (instances topologies : ℕ) (o : WrittenTopology) : Type 0 where
  pub members : (k : ℕ) (m : MemberInstance) → slice_get o.instances k ≡ Some m → m.used.instance < instances
  pub imports : (k : ℕ) (i : ImportedTopology) → slice_get o.imports k ≡ Some i → i.topology < topologies
  pub from : (k : ℕ) (c : WrittenConnection) → slice_get o.connections k ≡ Some c → c.from.used.instance < instances
  pub to : (k : ℕ) (c : WrittenConnection) → slice_get o.connections k ≡ Some c → c.to.used.instance < instances
  pub patterns : (k : ℕ) (p : WrittenPattern) → slice_get o.patterns k ≡ Some p → p.of.instance < instances
  pub targets : (k : ℕ) (p : WrittenPattern) (ts : List UsedInstance) (j : ℕ) (u : UsedInstance) → slice_get o.patterns k ≡ Some p → p.targets ≡ Some ts → slice_get ts j ≡ Some u → u.instance < instances

pub record DeploymentLies (components : ℕ) (d : WrittenDeployment) : Type 0 where
  pub instances : ComponentsLie components d.instances
  pub topologies : (t : ℕ) (o : WrittenTopology) → slice_get d.topologies t ≡ Some o → TopologyLies (length d.instances) (length d.topologies) o
