-- What topologies say of one another, of what is written of them, and of the rules.
use Rattle.std.specs.Prelude.{◌≡◌, ℕ, ◌<◌, Bool, true, ◌&&◌, List, length, slice_get, Option, Some}
use Rattle.std.specs.List.{list_all}
use Rattle.fp_tables.specs.Lists.{is_in}
use Rattle.fp_tables.specs.Names.{numbers_differ}
use Rattle.fp_tables.specs.Positions.{topology_lies}
use Rattle.fp_tables.specs.declared.component.Component.{Component}
use Rattle.fp_tables.specs.declared.kind.PortDef.{PortDef}
use Rattle.fp_tables.specs.declared.model.Model.{Model}
use Rattle.fp_tables.specs.declared.topology.Instance.{Instance}
use Rattle.fp_tables.specs.declared.topology.Link.{Link}
use Rattle.fp_tables.specs.declared.topology.Topology.{Topology}
use Rattle.fp_written_parts.specs.Lying.{TopologyLies}
use Rattle.fp_written_parts.specs.declared.topology.UsedInstance.{UsedInstance}
use Rattle.fp_written_parts.specs.declared.topology.WrittenConnection.{WrittenConnection}
use Rattle.fp_written_parts.specs.declared.topology.WrittenPattern.{WrittenPattern}
use Rattle.fp_written_parts.specs.declared.topology.WrittenTopology.{WrittenTopology}
use Rattle.fp_topologies.specs.Held.{instances_with}
use Rattle.fp_topologies.specs.Imports.{AreClosures}
use Rattle.fp_topologies.specs.Resolved.{AreTopologies, HaveNoWires}

-- none leads to a cycle of imports
abbrev pub HaveClosures : List WrittenTopology → Type 0
HaveClosures ts = (closures : List (Option (List ℕ))) → AreClosures ts closures → (t : ℕ) → t < length ts → (c : List ℕ) × (slice_get closures t ≡ Some (Some c))

-- ---- they are one

pub record AreAlike (r q : Topology) : Type 0 where
  pub name : r.name ≡ q.name
  pub instances : r.instances ≡ q.instances
  pub links : r.links ≡ q.links

abbrev pub OneTopologies : Type 0
OneTopologies = (ds : List PortDef) (cs : List Component) (is : List Instance) (ts : List WrittenTopology) (rs qs : List Topology) → HaveClosures ts → AreTopologies ds cs is ts rs → AreTopologies ds cs is ts qs
    → (t : ℕ) (r q : Topology) → slice_get rs t ≡ Some r → slice_get qs t ≡ Some q → AreAlike r q

-- ---- their positions are those of what is there

abbrev pub TopologiesLie : Type 0
TopologiesLie = (m : Model) (ds : List PortDef) (ts : List WrittenTopology) (rs : List Topology) → HaveClosures ts
    → ((t : ℕ) (o : WrittenTopology) → slice_get ts t ≡ Some o → TopologyLies (length m.instances) (length ts) o)
    → AreTopologies ds m.components m.instances ts rs → HaveNoWires rs → (t : ℕ) (r : Topology) → slice_get rs t ≡ Some r → topology_lies m r ≡ true

-- ---- they have each instance once

abbrev pub InstancesDiffer : Type 0
InstancesDiffer = (ds : List PortDef) (cs : List Component) (is : List Instance) (ts : List WrittenTopology) (rs : List Topology) → HaveClosures ts → AreTopologies ds cs is ts rs
    → (t : ℕ) (r : Topology) → slice_get rs t ≡ Some r → numbers_differ r.instances ≡ true

-- ---- their connections join instances that they have

-- all that a topology names in connections and patterns is among these
pub record UsesAreHeld (held : List ℕ) (o : WrittenTopology) : Type 0 where
  pub from : (k : ℕ) (c : WrittenConnection) → slice_get o.connections k ≡ Some c → is_in c.from.used.instance held ≡ true
  pub to : (k : ℕ) (c : WrittenConnection) → slice_get o.connections k ≡ Some c → is_in c.to.used.instance held ≡ true
  pub patterns : (k : ℕ) (p : WrittenPattern) → slice_get o.patterns k ≡ Some p → is_in p.of.instance held ≡ true
  pub targets : (k : ℕ) (p : WrittenPattern) (us : List UsedInstance) (j : ℕ) (u : UsedInstance) → slice_get o.patterns k ≡ Some p → p.targets ≡ Some us → slice_get us j ≡ Some u → is_in u.instance held ≡ true

abbrev pub AllUsesAreHeld : List WrittenTopology → Type 0
AllUsesAreHeld ts = (closures : List (Option (List ℕ))) → AreClosures ts closures → (t : ℕ) (o : WrittenTopology) (c : List ℕ) → slice_get ts t ≡ Some o → slice_get closures t ≡ Some (Some c)
    → UsesAreHeld (instances_with ts c o) o

-- both its instances are among these
abbrev pub joins : List ℕ → Link → Bool
joins held l = is_in l.from held && is_in l.to held

abbrev pub LinksJoinMembers : Type 0
LinksJoinMembers = (ds : List PortDef) (cs : List Component) (is : List Instance) (ts : List WrittenTopology) (rs : List Topology) → HaveClosures ts → AllUsesAreHeld ts → AreTopologies ds cs is ts rs
    → (t : ℕ) (r : Topology) → slice_get rs t ≡ Some r → list_all (joins r.instances) r.links ≡ true
