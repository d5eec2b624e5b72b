-- What is written of the instances and topologies of a source, over what uses mean and the values that expressions have. FPP Language
-- Specification, "Component Instance Definitions", "Topology Definitions", "Connection Graph Specifiers".
use Rattle.std.specs.Prelude.{◌≡◌, ℕ, ◌-◌, List, [], ◌∷◌, length, flat_map, take, drop}
use Rattle.fp_tree.specs.declared.source.Source.{Source}
use Rattle.fp_tree.specs.declared.name.Name.{Name}
use Rattle.fp_tree.specs.declared.name.Qual.{Qual}
use Rattle.fp_tree.specs.declared.component.Import.{Import}
use Rattle.fp_tree.specs.declared.instance.Instance.{Instance}
use Rattle.fp_tree.specs.declared.topology.Connection.{Connection}
use Rattle.fp_tree.specs.declared.topology.InstanceUse.{InstanceUse}
use Rattle.fp_tree.specs.declared.topology.PatternConnections.{PatternConnections}
use Rattle.fp_tree.specs.declared.topology.PortUse.{PortUse}
use Rattle.fp_tree.specs.declared.topology.Target.{Target}
use Rattle.fp_tree.specs.declared.topology.TMember.{TMember}
use Rattle.fp_tree.specs.declared.topology.TMember.TheVariants as member
use Rattle.fp_tree.specs.declared.topology.Topology.{Topology}
use Rattle.fp_meaning.specs.declared.group.Group.TheVariants as group
use Rattle.fp_meaning.specs.declared.item.Item.{Item}
use Rattle.fp_meaning.specs.declared.item.Item.TheVariants as item
use Rattle.fp_meaning.specs.Layout.{items}
use Rattle.fp_meaning.specs.Names.{Path}
use Rattle.fp_meaning.specs.Sites.{ModelDef, instance, topology}
use Rattle.fp_type_forms.specs.Written.{AllAt}
use Rattle.fp_component_forms.specs.Written.{BothOrNeither, GivenIs, PositionIs, Scoped, qualified, scoped}
use Rattle.fp_written_parts.specs.declared.instance.WrittenInstance.{WrittenInstance}
use Rattle.fp_written_parts.specs.declared.topology.ImportedTopology.{ImportedTopology}
use Rattle.fp_written_parts.specs.declared.topology.MemberInstance.{MemberInstance}
use Rattle.fp_written_parts.specs.declared.topology.UsedInstance.{UsedInstance}
use Rattle.fp_written_parts.specs.declared.topology.WrittenConnection.{WrittenConnection}
use Rattle.fp_written_parts.specs.declared.topology.WrittenDeployment.{WrittenDeployment}
use Rattle.fp_written_parts.specs.declared.topology.WrittenPattern.{WrittenPattern}
use Rattle.fp_written_parts.specs.declared.topology.WrittenPortUse.{WrittenPortUse}
use Rattle.fp_written_parts.specs.declared.topology.WrittenTopology.{WrittenTopology}

-- ---- the instances and topologies of a source

abbrev pub instance_in : Path → ModelDef → List (Scoped Instance)
instance_in scope (instance d) = scoped scope d ∷ []
instance_in scope _ = []

abbrev pub topology_in : Path → ModelDef → List (Scoped Topology)
topology_in scope (topology d) = scoped scope d ∷ []
topology_in scope _ = []

abbrev pub instance_of : Item → List (Scoped Instance)
instance_of (item.Declared d) = instance_in d.scope d.definition
instance_of _ = []

abbrev pub topology_of : Item → List (Scoped Topology)
topology_of (item.Declared d) = topology_in d.scope d.definition
topology_of _ = []

-- in source order: an instance and a topology are named by their positions here
abbrev pub instances : Source → List (Scoped Instance)
instances source = flat_map instance_of (items source)

abbrev pub topologies : Source → List (Scoped Topology)
topologies source = flat_map topology_of (items source)

-- ---- the members of a topology, kind by kind

abbrev pub uses_in : TMember → List InstanceUse
uses_in (member.Instance u) = u ∷ []
uses_in _ = []

abbrev pub imports_in : TMember → List Import
imports_in (member.Import i) = i ∷ []
imports_in _ = []

-- in whatever group they stand
abbrev pub connections_in : TMember → List Connection
connections_in (member.Connections g) = g.connections
connections_in _ = []

abbrev pub patterns_in : TMember → List PatternConnections
patterns_in (member.Pattern p) = p ∷ []
patterns_in _ = []

-- the name of a port stands behind that of its instance
abbrev pub instance_part : PortUse → Qual
instance_part u = record { names = take (length u.of.names - 1) u.of.names; at = u.at }

abbrev pub first_text : List Name → List ℕ
first_text [] = []
first_text (n ∷ ns) = n.text

abbrev pub port_part : PortUse → List ℕ
port_part u = first_text (drop (length u.of.names - 1) u.of.names)

-- ---- in a scope

module _ (source : Source) (scope : Path) where
  pub record UsedIs (q : Qual) (w : UsedInstance) : Type 0 where
    pub at : w.at ≡ q.at.first
    pub instance : PositionIs source scope group.Instance q w.instance

  pub record MemberInstanceIs (u : InstanceUse) (w : MemberInstance) : Type 0 where
    pub private : w.private ≡ u.private
    pub used : UsedIs u.of w.used

  pub record ImportIs (i : Import) (w : ImportedTopology) : Type 0 where
    pub at : w.at ≡ i.at.first
    pub topology : PositionIs source scope group.Topology i.of w.topology

  pub record PortUseIs (u : PortUse) (w : WrittenPortUse) : Type 0 where
    pub used : UsedIs (instance_part u) w.used
    pub port : w.port ≡ port_part u
    pub number : BothOrNeither (GivenIs source scope) u.number w.number

  pub record ConnectionIs (c : Connection) (w : WrittenConnection) : Type 0 where
    pub at : w.at ≡ c.at.first
    pub unmatched : w.unmatched ≡ c.unmatched
    pub from : PortUseIs c.from w.from
    pub to : PortUseIs c.to w.to

  abbrev pub TargetIs : Target → UsedInstance → Type 0
  TargetIs t w = UsedIs t.of w

  abbrev pub TargetsAre : List Target → List UsedInstance → Type 0
  TargetsAre ts ws = AllAt (λ position. TargetIs) 0 ts ws

  pub record PatternIs (p : PatternConnections) (w : WrittenPattern) : Type 0 where
    pub at : w.at ≡ p.at.first
    pub kind : w.kind ≡ p.kind
    pub of : UsedIs p.of w.of
    pub targets : BothOrNeither TargetsAre p.targets w.targets

-- ---- definitions

pub record InstanceIs (source : Source) (i : Scoped Instance) (w : WrittenInstance) : Type 0 where
  pub name : w.name ≡ qualified i.scope i.node.name
  pub at : w.at ≡ i.node.name.at.first
  pub component : PositionIs source i.scope group.Component i.node.of w.component
  pub base : GivenIs source i.scope i.node.base w.base
  pub queue : BothOrNeither (GivenIs source i.scope) i.node.queue w.queue
  pub stack : BothOrNeither (GivenIs source i.scope) i.node.stack w.stack
  pub priority : BothOrNeither (GivenIs source i.scope) i.node.priority w.priority
  pub cpu : BothOrNeither (GivenIs source i.scope) i.node.cpu w.cpu

pub record TopologyIs (source : Source) (t : Scoped Topology) (w : WrittenTopology) : Type 0 where
  pub name : w.name ≡ qualified t.scope t.node.name
  pub instances : AllAt (λ position. MemberInstanceIs source t.scope) 0 (flat_map uses_in t.node.members) w.instances
  pub imports : AllAt (λ position. ImportIs source t.scope) 0 (flat_map imports_in t.node.members) w.imports
  pub connections : AllAt (λ position. ConnectionIs source t.scope) 0 (flat_map connections_in t.node.members) w.connections
  pub patterns : AllAt (λ position. PatternIs source t.scope) 0 (flat_map patterns_in t.node.members) w.patterns

-- of each in source order
pub record IsWrittenDeployment (source : Source) (w : WrittenDeployment) : Type 0 where
  pub instances : AllAt (λ position. InstanceIs source) 0 (instances source) w.instances
  pub topologies : AllAt (λ position. TopologyIs source) 0 (topologies source) w.topologies
