-- The topologies of a model before their connections are numbered. FPP Language Specification, "Topology Definitions".
use Rattle.std.specs.Prelude.{◌≡◌, ℕ, List, [], ◌++◌, length, slice_get, Option, Some}
use Rattle.fp_tables.specs.declared.component.Component.{Component}
use Rattle.fp_tables.specs.declared.kind.PortDef.{PortDef}
use Rattle.fp_tables.specs.declared.topology.Instance.{Instance}
use Rattle.fp_tables.specs.declared.topology.Link.{Link}
use Rattle.fp_tables.specs.declared.topology.Topology.{Topology}
use Rattle.fp_written_parts.specs.declared.topology.WrittenTopology.{WrittenTopology}
use Rattle.fp_topologies.specs.Imports.{AreClosures}
use Rattle.fp_topologies.specs.declared.joining.Joined.{Joined}
use Rattle.fp_topologies.specs.Joined.{AreJoined, imported_links}
use Rattle.fp_topologies.specs.Ordered.{AreInOrder, link_cmp}

-- their connections have no numbers yet
abbrev pub HaveNoWires : List Topology → Type 0
HaveNoWires rs = (t : ℕ) (r : Topology) → slice_get rs t ≡ Some r → r.wires ≡ []

module _ (cs : List Component) (is : List Instance) where
  pub record IsTopology (o : WrittenTopology) (imported : List Link) (j : Joined) (r : Topology) : Type 0 where
    pub name : r.name ≡ o.name
    pub instances : r.instances ≡ j.instances
    pub links : AreInOrder (link_cmp cs is) (imported ++ j.own) r.links

  -- of those that lead to no cycle of imports
  pub record AreResolved (ts : List WrittenTopology) (closures : List (Option (List ℕ))) (joined : List Joined) (rs : List Topology) : Type 0 where
    pub of : (t : ℕ) (o : WrittenTopology) (c : List ℕ) (j : Joined) (r : Topology) → slice_get ts t ≡ Some o → slice_get closures t ≡ Some (Some c) → slice_get joined t ≡ Some j → slice_get rs t ≡ Some r → IsTopology o (imported_links ts joined c) j r

-- each, in source order; of the numbers of connections nothing is said here
pub record AreTopologies (ds : List PortDef) (cs : List Component) (is : List Instance) (ts : List WrittenTopology) (rs : List Topology) : Type 0 where
  pub closures : List (Option (List ℕ))
  pub closed : AreClosures ts closures
  pub joined : List Joined
  pub are : AreJoined ts ds cs is closures joined
  pub each : length rs ≡ length ts
  pub resolved : AreResolved cs is ts closures joined rs
