-- What is the least of what is written is the least of the source.
use Rattle.std.proofs.Common.{ℕ, ◌≡◌, ◌<◌, List, Option, sym, subst, ◌∙◌}
use Rattle.fp_base.specs.declared.refusal.Refusal.{Refusal}
use Rattle.fp_base.specs.Least.{IsLeast}
use Rattle.fp_base.proofs.Calculus.{least_same}
use Rattle.fp_base.proofs.Spots.{item_below}
use Rattle.fp_base.proofs.Lists.{get_within}
use Rattle.fp_tree.specs.declared.source.Source.{Source}
use Rattle.fp_tables.specs.declared.topology.Instance.{Instance}
use Rattle.fp_tables.specs.declared.topology.Link.{Link}
use Rattle.fp_tables.specs.declared.topology.Topology.{Topology}
use Rattle.fp_written_parts.specs.declared.topology.WrittenDeployment.{WrittenDeployment}
use Rattle.fp_instances.specs.Broken.{InstancesBroken}
use Rattle.fp_instances.specs.Resolved.{AreInstances}
use Rattle.fp_instances.proofs.Once.{one_instances}
use Rattle.fp_numbering.specs.Broken.{Breaks}
use Rattle.fp_numbering.specs.Ends.{matches_of, tips_of}
use Rattle.fp_source_parts.specs.declared.parts.Parts.{Parts}
use Rattle.fp_topologies.specs.Laws.{HaveClosures, OneTopologies}
use Rattle.fp_topologies.specs.Resolved.{AreTopologies}
use Rattle.fp_topologies.specs.Broken.{TopologiesBroken}
use Rattle.fp_numbering.specs.Wired.{NumbersBroken}
use Rattle.fp_source_parts.specs.TopologyBroken.{SourceInstancesBroken, SourceNumbersBroken, SourceTopologiesBroken, deployed}
use Rattle.fp_source_parts.specs.TopologyBuilt.{IsDeployment}
use Rattle.fp_source_parts.proofs.TopologyOnce.{OneComponents, OneDeployment, one_parts_of, one_written}

module _ (one_components : OneComponents) (one_deployment : OneDeployment) (source : Source) (p : Parts) (w : WrittenDeployment) (are : IsDeployment source p w) where
  parts_same : (q : Parts) (v : WrittenDeployment) → IsDeployment source q v → q ≡ p
  parts_same q v h = one_parts_of one_components source q p v w h are

  written_same : (q : Parts) (v : WrittenDeployment) → IsDeployment source q v → v ≡ w
  written_same q v h = one_written one_deployment source q p v w h are

  pub instances_least : (o : Option Refusal) → IsLeast (InstancesBroken p.components w.instances) o → IsLeast (SourceInstancesBroken source) o
  instances_least o l =
      least_same (λ f b. record { parts = p; written = w; are = are; broken = b })
      (λ f b. subst (λ (v : WrittenDeployment). InstancesBroken p.components v.instances f) (written_same b.parts b.written b.are)
      (subst (λ (q : Parts). InstancesBroken q.components b.written.instances f) (parts_same b.parts b.written b.are) b.broken)) l

  module _ (xs : List Instance) (built : AreInstances w.instances xs) where
    instances_same : (v : WrittenDeployment) → v ≡ w → (ys : List Instance) → AreInstances v.instances ys → ys ≡ xs
    instances_same v e ys h = one_instances w.instances ys xs (subst (λ (u : WrittenDeployment). AreInstances u.instances ys) e h) built

    pub topologies_least : (o : Option Refusal) → IsLeast (TopologiesBroken p.ports p.components xs w.topologies) o → IsLeast (SourceTopologiesBroken source) o
    topologies_least o l =
        least_same (λ f b. record { parts = p; written = w; are = are; instances = xs; built = built; broken = b })
        (λ f b.
        let same = written_same b.parts b.written b.are in
        subst (λ (ys : List Instance). TopologiesBroken p.ports p.components ys w.topologies f) (instances_same b.written same b.instances b.built)
        (subst (λ (v : WrittenDeployment). TopologiesBroken p.ports p.components b.instances v.topologies f) same
        (subst (λ (q : Parts). TopologiesBroken q.ports q.components b.instances b.written.topologies f) (parts_same b.parts b.written b.are) b.broken))) l

    module _ (rs : List Topology) (closed : HaveClosures w.topologies) (joined : AreTopologies p.ports p.components xs w.topologies rs) (one_topologies : OneTopologies) where
      -- of other topologies that are the source's
      alike : (qs : List Topology) → AreTopologies p.ports p.components xs w.topologies qs → (f : Refusal) → NumbersBroken (deployed p.ports p.components xs qs) f → NumbersBroken (deployed p.ports p.components xs rs) f
      alike qs h f (t, q, at, b) =
          let low = get_within qs t q at in
          let r = item_below rs t (subst (λ (n : ℕ). t < n) (h.each ∙ sym joined.each) low) in
          let same = one_topologies p.ports p.components xs w.topologies qs rs closed h joined t q r.0 at r.1 in
          (t, r.0, r.1, subst (λ (ls : List Link). Breaks (matches_of (deployed p.ports p.components xs rs)) (tips_of (deployed p.ports p.components xs rs) ls) f) same.links b)

      pub numbers_least : (o : Option Refusal) → IsLeast (NumbersBroken (deployed p.ports p.components xs rs)) o → IsLeast (SourceNumbersBroken source) o
      numbers_least o l =
          least_same (λ f b. record { parts = p; written = w; are = are; instances = xs; built = built; topologies = rs; joined = joined; broken = b })
          (λ f b.
          let same = written_same b.parts b.written b.are in
          let parts = parts_same b.parts b.written b.are in
          let list = instances_same b.written same b.instances b.built in
          alike b.topologies
          (subst (λ (ys : List Instance). AreTopologies p.ports p.components ys w.topologies b.topologies) list
          (subst (λ (v : WrittenDeployment). AreTopologies p.ports p.components b.instances v.topologies b.topologies) same
          (subst (λ (q : Parts). AreTopologies q.ports q.components b.instances b.written.topologies b.topologies) parts b.joined))) f
          (subst (λ (ys : List Instance). NumbersBroken (deployed p.ports p.components ys b.topologies) f) list
          (subst (λ (q : Parts). NumbersBroken (deployed q.ports q.components b.instances b.topologies) f) parts b.broken))) l
