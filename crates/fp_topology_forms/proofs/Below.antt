-- Each position that is written is that of a component, an instance or a topology of the source.
use Rattle.std.proofs.Common.{◌≡◌, ℕ, ◌<◌, List, length, flat_map, slice_get, Option, Some, None, ap, ◌∙◌, subst}
use Rattle.fp_base.proofs.Options.{same_some}
use Rattle.fp_tree.specs.declared.source.Source.{Source}
use Rattle.fp_tree.specs.declared.name.Qual.{Qual}
use Rattle.fp_tree.specs.declared.topology.Target.{Target}
use Rattle.fp_tree.specs.declared.topology.Topology.{Topology}
use Rattle.fp_meaning.specs.declared.group.Group.TheVariants as group
use Rattle.fp_meaning.specs.Names.{Path}
use Rattle.fp_component_forms.specs.Written.{BothOrNeither, PositionIs, Scoped, components}
use Rattle.fp_written_parts.specs.Lying.{DeploymentLies, TopologyLies}
use Rattle.fp_written_parts.specs.declared.topology.UsedInstance.{UsedInstance}
use Rattle.fp_written_parts.specs.declared.topology.WrittenDeployment.{WrittenDeployment}
use Rattle.fp_written_parts.specs.declared.topology.WrittenTopology.{WrittenTopology}
use Rattle.fp_topology_forms.specs.Written.{ConnectionIs, ImportIs, InstanceIs, IsWrittenDeployment, MemberInstanceIs, PatternIs, TargetIs, TargetsAre, TopologyIs, UsedIs, connections_in, imports_in, instance_part, instances, patterns_in, topologies, uses_in}
use Rattle.fp_topology_forms.proofs.Places.{as_long, component_lies, instance_lies, second_read, topology_lies}

none_there : {A C : Type 0} {x : A} → ◌≡◌ {A = Option A} None (Some x) → C
none_there e = absurd (cc)

module _ (source : Source) (d : WrittenDeployment) (are : IsWrittenDeployment source d) where
  used_below : (scope : Path) (q : Qual) (u : UsedInstance) → UsedIs source scope q u → u.instance < length d.instances
  used_below scope q u h =
      subst (λ (m : ℕ). u.instance < m) (as_long (InstanceIs source) 0 (instances source) d.instances are.instances) (instance_lies source scope q u.instance h.instance)

  topology_below : (scope : Path) (q : Qual) (n : ℕ) → PositionIs source scope group.Topology q n → n < length d.topologies
  topology_below scope q n h =
      subst (λ (m : ℕ). n < m) (as_long (TopologyIs source) 0 (topologies source) d.topologies are.topologies) (topology_lies source scope q n h)

  target_below : (scope : Path) (o : Option (List Target)) (p : Option (List UsedInstance)) (us : List UsedInstance) (j : ℕ) (u : UsedInstance) → BothOrNeither (TargetsAre source scope) o p → p ≡ Some us
      → slice_get us j ≡ Some u → u.instance < length d.instances
  target_below scope None None us j u h is at = none_there is
  target_below scope None (Some vs) us j u h is at = absurd h
  target_below scope (Some ts) None us j u h is at = absurd h
  target_below scope (Some ts) (Some vs) us j u h is at =
      let t = second_read (TargetIs source scope) 0 ts vs j u h (ap (λ (l : List UsedInstance). slice_get l j) (same_some is) ∙ at) in
      used_below scope t.one.of u t.related

  below : (t : Scoped Topology) (o : WrittenTopology) → TopologyIs source t o → TopologyLies (length d.instances) (length d.topologies) o
  below t o is =
      let scope = t.scope in
      let ms = t.node.members in
      record {
        members = λ k m at.
            let x = second_read (MemberInstanceIs source scope) 0 (flat_map uses_in ms) o.instances k m is.instances at in
            used_below scope x.one.of m.used x.related.used;
        imports = λ k i at.
            let x = second_read (ImportIs source scope) 0 (flat_map imports_in ms) o.imports k i is.imports at in
            topology_below scope x.one.of i.topology x.related.topology;
        from = λ k c at.
            let x = second_read (ConnectionIs source scope) 0 (flat_map connections_in ms) o.connections k c is.connections at in
            used_below scope (instance_part x.one.from) c.from.used x.related.from.used;
        to = λ k c at.
            let x = second_read (ConnectionIs source scope) 0 (flat_map connections_in ms) o.connections k c is.connections at in
            used_below scope (instance_part x.one.to) c.to.used x.related.to.used;
        patterns = λ k p at.
            let x = second_read (PatternIs source scope) 0 (flat_map patterns_in ms) o.patterns k p is.patterns at in
            used_below scope x.one.of p.of x.related.of;
        targets = λ k p us j u at listed there.
            let x = second_read (PatternIs source scope) 0 (flat_map patterns_in ms) o.patterns k p is.patterns at in
            target_below scope x.one.targets p.targets us j u x.related.targets listed there;
      }

  pub deployment_lies : DeploymentLies (length (components source)) d
  deployment_lies = record {
    instances = λ k i at.
        let x = second_read (InstanceIs source) 0 (instances source) d.instances k i are.instances at in
        component_lies source x.one.scope x.one.node.of i.component x.related.component;
    topologies = λ k o at.
        let x = second_read (TopologyIs source) 0 (topologies source) d.topologies k o are.topologies at in
        below x.one o x.related;
  }
