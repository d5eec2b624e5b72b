-- Topologies as they are without the numbers of their connections.
use Rattle.std.proofs.Common.{◌≡◌, ℕ, List, [], ◌++◌, length, map, Option, Some, slice_get, refl, sym, ap, subst, ◌∙◌}
use Rattle.std.specs.Prelude.{option_map}
use Rattle.std.proofs.lemmas.List.{length-map}
use Rattle.std.proofs.lemmas.Option.{slice_get-map}
use Rattle.fp_base.proofs.Options.{mapped_some, same_some}
use Rattle.fp_tables.specs.declared.component.Component.{Component}
use Rattle.fp_tables.specs.declared.kind.PortDef.{PortDef}
use Rattle.fp_tables.specs.declared.model.Model.{Model}
use Rattle.fp_tables.specs.declared.topology.Instance.{Instance}
use Rattle.fp_tables.specs.declared.topology.Topology.{Topology}
use Rattle.fp_numbering.specs.Answers.{AreNumbered}
use Rattle.fp_numbering.specs.Wired.{AreAllNumbered, IsNumbered}
use Rattle.fp_instances.specs.Resolved.{AreInstances}
use Rattle.fp_written_parts.specs.Lying.{DeploymentLies, TopologyLies}
use Rattle.fp_written_parts.specs.declared.topology.WrittenDeployment.{WrittenDeployment}
use Rattle.fp_written_parts.specs.declared.topology.WrittenTopology.{WrittenTopology}
use Rattle.fp_topologies.specs.Joined.{imported_links}
use Rattle.fp_topologies.specs.Ordered.{AreInOrder, link_cmp}
use Rattle.fp_topologies.specs.Resolved.{AreTopologies, HaveNoWires}
use Rattle.fp_model.specs.Defined.{AreWired}

bare : Topology → Topology
bare o = record { name = o.name; instances = o.instances; links = o.links; wires = [] }

pub stripped : List Topology → List Topology
stripped rs = map bare rs

-- what stands there is one without its wires
at_bare : (rs : List Topology) (t : ℕ) (o : Topology) → slice_get (map bare rs) t ≡ Some o → (r : Topology) × (slice_get rs t ≡ Some r) × (bare r ≡ o)
at_bare rs t o here = mapped_some bare (slice_get rs t) o (sym (slice_get-map bare rs t) ∙ here)

pub none_left : (rs : List Topology) → HaveNoWires (stripped rs)
unfolding stripped bare
none_left rs t o here = let r = at_bare rs t o here in ap (λ (x : Topology). x.wires) (sym r.2)

pub stripped_are : (ds : List PortDef) (cs : List Component) (is : List Instance) (ts : List WrittenTopology) (rs : List Topology) → AreTopologies ds cs is ts rs → AreTopologies ds cs is ts (stripped rs)
unfolding stripped bare at_bare
stripped_are ds cs is ts rs h = record {
  closures = h.closures;
  closed = h.closed;
  joined = h.joined;
  are = h.are;
  each = length-map rs bare ∙ h.each;
  resolved = record {
    of = λ t o c j q at closed joined here.
        let r = at_bare rs t q here in
        let made = h.resolved.of t o c j r.0 at closed joined r.1 in
        record {
          name = ap (λ (x : Topology). x.name) (sym r.2) ∙ made.name;
          instances = ap (λ (x : Topology). x.instances) (sym r.2) ∙ made.instances;
          links = subst (λ (x : Topology). AreInOrder (link_cmp cs is) (imported_links ts h.joined c ++ j.own) x.links) r.2 made.links;
        };
  };
}

pub stripped_numbered : (m : Model) → AreWired m → AreAllNumbered m (stripped m.topologies) m.topologies
unfolding stripped bare
stripped_numbered m wired = record {
  each = sym (length-map m.topologies bare);
  at = λ t o p before after.
      let r = at_bare m.topologies t o before in
      let same : r.0 ≡ p = same_some (sym r.1 ∙ after) in
      subst (λ (x : Topology). IsNumbered m x p) r.2
      (subst (λ (x : Topology). IsNumbered m (bare x) p) (sym same) (record { name = refl; instances = refl; links = refl; wires = wired t p after }));
}

-- what is written lies among the instances of the model
pub at_written : (m : Model) (w : WrittenDeployment) → AreInstances w.instances m.instances → DeploymentLies (length m.components) w → (t : ℕ) (o : WrittenTopology) → slice_get w.topologies t ≡ Some o
    → TopologyLies (length m.instances) (length w.topologies) o
at_written m w are lies t o at = subst (λ (n : ℕ). TopologyLies n (length w.topologies) o) (sym are.each) (lies.topologies t o at)
