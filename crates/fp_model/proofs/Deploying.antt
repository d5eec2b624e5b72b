-- What is known of the instances and topologies that a source defines, over the one thing that is written of them.
use Rattle.std.proofs.Common.{◌≡◌, ℕ, ◌<◌, true, inl, List, [], ◌∷◌, length, map, flat_map, slice_get, Option, Some, refl, sym, ap, subst, ◌∙◌}
use Rattle.std.specs.List.{list_all}
use Rattle.std.proofs.lemmas.List.{length-map}
use Rattle.fp_base.specs.Least.{IsUnbroken}
use Rattle.fp_base.specs.declared.refusal.Refusal.{Refusal}
use Rattle.fp_tree.specs.declared.source.Source.{Source}
use Rattle.fp_tables.specs.Names.{is_qualified, texts_differ}
use Rattle.fp_tables.specs.declared.model.Model.{Model}
use Rattle.fp_tables.specs.declared.topology.Instance.{Instance}
use Rattle.fp_tables.specs.declared.topology.Topology.{Topology}
use Rattle.fp_meaning.specs.Layout.{items}
use Rattle.fp_component_forms.specs.Written.{components}
use Rattle.fp_written_parts.specs.Lying.{DeploymentLies}
use Rattle.fp_written_parts.specs.declared.instance.WrittenInstance.{WrittenInstance}
use Rattle.fp_written_parts.specs.declared.topology.WrittenDeployment.{WrittenDeployment}
use Rattle.fp_written_parts.specs.declared.topology.WrittenTopology.{WrittenTopology}
use Rattle.fp_instances.specs.Broken.{InstancesBroken}
use Rattle.fp_instances.specs.Resolved.{AreInstances}
use Rattle.fp_source_parts.specs.declared.parts.Parts.{Parts}
use Rattle.fp_source_parts.specs.TopologyBuilt.{IsDeployment}
use Rattle.fp_topology_forms.specs.Written.{InstanceIs, IsWrittenDeployment, TopologyIs, instance_of, instances, topologies, topology_of}
use Rattle.fp_topologies.specs.ImportLaws.{UnbrokenAreClosed}
use Rattle.fp_topologies.specs.Laws.{HaveClosures}
use Rattle.fp_topologies.specs.Resolved.{AreTopologies}
use Rattle.fp_topologies.specs.Broken.{TopologiesBroken}
use Rattle.fp_model.specs.Defined.{Defined}
use Rattle.fp_model.specs.Joined.{Joined, TopologiesHold}
use Rattle.fp_model.proofs.Lengths.{as_long, components_long}

pub joined_of : (source : Source) (m : Model) → Defined source m → Joined source m
joined_of source m d = record { constants = d.constants; types = d.types; parts = d.parts; machines = d.machines; instances = d.instances; topologies = d.topologies; order = d.order }

-- over what is written, which breaks no rule
pub record IsOne (source : Source) (m : Model) : Type 0 where
  pub written : WrittenDeployment
  pub are : IsWrittenDeployment source written
  pub deployment : IsDeployment source (record { ports = m.ports; components = m.components }) written
  pub instances : AreInstances written.instances m.instances
  pub topologies : AreTopologies m.ports m.components m.instances written.topologies m.topologies
  pub placed : IsUnbroken (InstancesBroken m.components written.instances)
  pub whole : IsUnbroken (TopologiesBroken m.ports m.components m.instances written.topologies)
  pub closures : HaveClosures written.topologies
  pub lies : DeploymentLies (length m.components) written

-- from laws on what is written
pub deployed_one : ((source : Source) (v w : WrittenDeployment) → IsWrittenDeployment source v → IsWrittenDeployment source w → v ≡ w)
    → ((source : Source) (d : WrittenDeployment) → IsWrittenDeployment source d → DeploymentLies (length (components source)) d) → UnbrokenAreClosed
    → (source : Source) (m : Model) → Joined source m → TopologiesHold source → IsOne source m
deployed_one one lies closed source m j h =
    let w = j.topologies.written in
    let are = j.topologies.are in
    let parts : Parts = record { ports = m.ports; components = m.components } in
    let deployment : IsDeployment source parts w = record { types = j.parts.0; written = j.parts.1; are = j.parts.2; deployment = are } in
    let built : AreInstances w.instances m.instances =
    subst (λ (v : WrittenDeployment). AreInstances v.instances m.instances) (one source j.instances.written w j.instances.are are) j.instances.instances in
    let whole : IsUnbroken (TopologiesBroken m.ports m.components m.instances w.topologies) =
    λ f b. h.topologies f (record { parts = parts; written = w; are = deployment; instances = m.instances; built = built; broken = b }) in
    record {
      written = w;
      are = are;
      deployment = deployment;
      instances = built;
      topologies = j.topologies.topologies;
      placed = λ f b. h.instances f (record { parts = parts; written = w; are = deployment; broken = b });
      whole = whole;
      closures = λ cs are_closures t low. closed w.topologies cs are_closures (λ f b. whole f (record { closures = cs; closed = are_closures; broken = inl b })) t low;
      lies = subst (λ (n : ℕ). DeploymentLies n w) (components_long source m j.parts) (lies source w are);
    }

module _ (source : Source) (m : Model) (o : IsOne source m) where
  pub instances_long : length (flat_map instance_of (items source)) ≡ length m.instances
  instances_long = as_long (InstanceIs source) 0 (instances source) o.written.instances o.are.instances ∙ sym o.instances.each

  pub topologies_long : length (flat_map topology_of (items source)) ≡ length m.topologies
  topologies_long = as_long (TopologyIs source) 0 (topologies source) o.written.topologies o.are.topologies ∙ sym o.topologies.each
