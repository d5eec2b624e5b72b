-- The names of instances, and those of topologies.
use Rattle.std.proofs.Common.{◌≡◌, true, List, [], ◌∷◌, ◌++◌, map, flat_map, refl}
use Rattle.std.specs.List.{AllByRecursion as Each, list_all}
use Rattle.fp_base.proofs.Lists.{each_before, each_behind, each_flat, each_weaker}
use Rattle.fp_base.specs.Least.{IsUnbroken}
use Rattle.fp_base.specs.Names.{is_name}
use Rattle.fp_part_values.proofs.Standing.{each_given}
use Rattle.fp_tree.specs.declared.source.Source.{Source}
use Rattle.fp_tree.specs.declared.name.Name.{Name}
use Rattle.fp_tree.specs.declared.definition.Def.{Def}
use Rattle.fp_tree.specs.declared.definition.Def.TheVariants as def
use Rattle.fp_tree.specs.declared.instance.Instance.{Instance}
use Rattle.fp_tree.specs.declared.topology.Topology.{Topology}
use Rattle.fp_tables.specs.Names.{is_qualified, texts_differ}
use Rattle.fp_meaning.specs.declared.group.Group.{Group}
use Rattle.fp_meaning.specs.declared.group.Group.TheVariants as group
use Rattle.fp_meaning.specs.declared.item.Item.{Item}
use Rattle.fp_meaning.specs.declared.item.Item.TheVariants as item
use Rattle.fp_meaning.specs.Broken.{BrokenByDefinitions}
use Rattle.fp_meaning.specs.Layout.{items}
use Rattle.fp_meaning.specs.Names.{Path, defined, definitions, definitions_of, group_of, model_group, model_name, name_of, IsMadeOfNames}
use Rattle.fp_meaning.specs.Sites.{ModelDef, component, instance, interface, machine, topology}
use Rattle.fp_component_forms.specs.Written.{Scoped, qualified, same_group}
use Rattle.fp_source_types.specs.Named.{DefinitionsAreNamed}
use Rattle.fp_source_types.proofs.Dotted.{dotted_qualified}
use Rattle.fp_written_parts.specs.declared.instance.WrittenInstance.{WrittenInstance}
use Rattle.fp_written_parts.specs.declared.topology.WrittenDeployment.{WrittenDeployment}
use Rattle.fp_written_parts.specs.declared.topology.WrittenTopology.{WrittenTopology}
use Rattle.fp_topology_forms.specs.Written.{InstanceIs, IsWrittenDeployment, TopologyIs, instance_in, instance_of, instances, topologies, topology_in, topology_of}
use Rattle.fp_topology_forms.proofs.Texts.{source_once, texts_in, written_apart, written_qualified}

in_each : {A B : Type 0} (P : A → Type 0) (f : B → List A) (xs : List B) → Each P (flat_map f xs) → Each (λ (x : B). Each P (f x)) xs
in_each P f [] h = tt
in_each P f (x ∷ xs) h = (each_before P (f x) (flat_map f xs) h, in_each P f xs (each_behind P (f x) (flat_map f xs) h))

qualified_name : (scope : Path) (n : Name) → list_all is_name (scope ++ n.text ∷ []) ≡ true → is_qualified (qualified scope n) ≡ true
qualified_name scope n h = dotted_qualified (scope ++ n.text ∷ []) h (some scope)
  where
    some : (s : Path) → s ++ n.text ∷ [] ≡ [] → ⊥
    some [] e = cc
    some (x ∷ xs) e = cc

-- ---- instances

of_instances : (h : Group) → same_group group.Instance h ≡ true → h ≡ group.Instance
of_instances group.Instance e = refl
of_instances group.Kind e = absurd (cc)
of_instances group.Value e = absurd (cc)
of_instances group.Port e = absurd (cc)
of_instances group.Component e = absurd (cc)
of_instances group.Topology e = absurd (cc)
of_instances group.Machine e = absurd (cc)
of_instances group.Interface e = absurd (cc)

instance_texts : (i : Item) → texts_in group.Instance (definitions_of i) ≡ map (λ (s : Scoped Instance). qualified s.scope s.node.name) (instance_of i)
instance_texts (item.Defined s) = of_definition s.scope s.definition
  where
    of_definition : (scope : Path) (d : Def) → texts_in group.Instance (defined (group_of d) scope (name_of d) ∷ []) ≡ []
    of_definition scope (def.Constant d) = refl
    of_definition scope (def.Abstract d) = refl
    of_definition scope (def.Alias d) = refl
    of_definition scope (def.Array d) = refl
    of_definition scope (def.Struct d) = refl
    of_definition scope (def.Enum d) = refl
    of_definition scope (def.Port d) = refl
instance_texts (item.Enumerated e) = refl
instance_texts (item.Declared d) = of_model d.scope d.definition
  where
    of_model : (scope : Path) (d : ModelDef) → texts_in group.Instance (defined (model_group d) scope (model_name d) ∷ []) ≡ map (λ (s : Scoped Instance). qualified s.scope s.node.name) (instance_in scope d)
    of_model scope (machine d) = refl
    of_model scope (component d) = refl
    of_model scope (interface d) = refl
    of_model scope (instance d) = refl
    of_model scope (topology d) = refl
instance_texts (item.Used since n) = refl
instance_texts (item.Written since p) = refl

abbrev InstanceQualified : Scoped Instance → Type 0
InstanceQualified s = is_qualified (qualified s.scope s.node.name) ≡ true

instance_qualified : (i : Item) → Each IsMadeOfNames (definitions_of i) → Each InstanceQualified (instance_of i)
instance_qualified (item.Declared d) h = of_model d.scope d.definition h.0
  where
    of_model : (scope : Path) (m : ModelDef) → list_all is_name (scope ++ (model_name m).text ∷ []) ≡ true → Each InstanceQualified (instance_in scope m)
    of_model scope (instance d) h = (qualified_name scope d.name h, tt)
    of_model scope (machine d) h = tt
    of_model scope (component d) h = tt
    of_model scope (interface d) h = tt
    of_model scope (topology d) h = tt
instance_qualified (item.Defined s) h = tt
instance_qualified (item.Enumerated e) h = tt
instance_qualified (item.Used since n) h = tt
instance_qualified (item.Written since p) h = tt

-- ---- topologies

of_topologies : (h : Group) → same_group group.Topology h ≡ true → h ≡ group.Topology
of_topologies group.Topology e = refl
of_topologies group.Kind e = absurd (cc)
of_topologies group.Value e = absurd (cc)
of_topologies group.Port e = absurd (cc)
of_topologies group.Component e = absurd (cc)
of_topologies group.Instance e = absurd (cc)
of_topologies group.Machine e = absurd (cc)
of_topologies group.Interface e = absurd (cc)

topology_texts : (i : Item) → texts_in group.Topology (definitions_of i) ≡ map (λ (s : Scoped Topology). qualified s.scope s.node.name) (topology_of i)
topology_texts (item.Defined s) = of_definition s.scope s.definition
  where
    of_definition : (scope : Path) (d : Def) → texts_in group.Topology (defined (group_of d) scope (name_of d) ∷ []) ≡ []
    of_definition scope (def.Constant d) = refl
    of_definition scope (def.Abstract d) = refl
    of_definition scope (def.Alias d) = refl
    of_definition scope (def.Array d) = refl
    of_definition scope (def.Struct d) = refl
    of_definition scope (def.Enum d) = refl
    of_definition scope (def.Port d) = refl
topology_texts (item.Enumerated e) = refl
topology_texts (item.Declared d) = of_model d.scope d.definition
  where
    of_model : (scope : Path) (d : ModelDef) → texts_in group.Topology (defined (model_group d) scope (model_name d) ∷ []) ≡ map (λ (s : Scoped Topology). qualified s.scope s.node.name) (topology_in scope d)
    of_model scope (machine d) = refl
    of_model scope (component d) = refl
    of_model scope (interface d) = refl
    of_model scope (instance d) = refl
    of_model scope (topology d) = refl
topology_texts (item.Used since n) = refl
topology_texts (item.Written since p) = refl

abbrev TopologyQualified : Scoped Topology → Type 0
TopologyQualified s = is_qualified (qualified s.scope s.node.name) ≡ true

topology_qualified : (i : Item) → Each IsMadeOfNames (definitions_of i) → Each TopologyQualified (topology_of i)
topology_qualified (item.Declared d) h = of_model d.scope d.definition h.0
  where
    of_model : (scope : Path) (m : ModelDef) → list_all is_name (scope ++ (model_name m).text ∷ []) ≡ true → Each TopologyQualified (topology_in scope m)
    of_model scope (topology d) h = (qualified_name scope d.name h, tt)
    of_model scope (machine d) h = tt
    of_model scope (component d) h = tt
    of_model scope (interface d) h = tt
    of_model scope (instance d) h = tt
topology_qualified (item.Defined s) h = tt
topology_qualified (item.Enumerated e) h = tt
topology_qualified (item.Used since n) h = tt
topology_qualified (item.Written since p) h = tt

-- ---- of a source

module _ (source : Source) (d : WrittenDeployment) (definitions_named : DefinitionsAreNamed source) (are : IsWrittenDeployment source d) where
  each_named : Each IsMadeOfNames (definitions source)
  each_named = each_given IsMadeOfNames (definitions source) definitions_named

  by_items : Each (λ (i : Item). Each IsMadeOfNames (definitions_of i)) (items source)
  by_items = in_each IsMadeOfNames definitions_of (items source) each_named

  pub instances_qualified : list_all (λ (i : WrittenInstance). is_qualified i.name) d.instances ≡ true
  instances_qualified =
      written_qualified group.Instance (λ (i : Instance). i.name) instance_of (InstanceIs source) (λ (w : WrittenInstance). w.name) (λ s w h. h.name) 0 (instances source) d.instances
      (each_flat InstanceQualified instance_of (items source) (each_weaker (λ (i : Item). Each IsMadeOfNames (definitions_of i)) (λ (i : Item). Each InstanceQualified (instance_of i)) instance_qualified (items source) by_items))
      are.instances

  pub topologies_qualified : list_all (λ (t : WrittenTopology). is_qualified t.name) d.topologies ≡ true
  topologies_qualified =
      written_qualified group.Topology (λ (t : Topology). t.name) topology_of (TopologyIs source) (λ (w : WrittenTopology). w.name) (λ s w h. h.name) 0 (topologies source) d.topologies
      (each_flat TopologyQualified topology_of (items source) (each_weaker (λ (i : Item). Each IsMadeOfNames (definitions_of i)) (λ (i : Item). Each TopologyQualified (topology_of i)) topology_qualified (items source) by_items))
      are.topologies

  pub instances_differ : IsUnbroken (BrokenByDefinitions source) → texts_differ (map (λ (i : WrittenInstance). i.name) d.instances) ≡ true
  instances_differ once =
      written_apart group.Instance (λ (i : Instance). i.name) instance_of (InstanceIs source) (λ (w : WrittenInstance). w.name) (λ s w h. h.name) of_instances instance_texts (items source) d.instances are.instances
      (source_once source once) each_named

  pub topologies_differ : IsUnbroken (BrokenByDefinitions source) → texts_differ (map (λ (t : WrittenTopology). t.name) d.topologies) ≡ true
  topologies_differ once =
      written_apart group.Topology (λ (t : Topology). t.name) topology_of (TopologyIs source) (λ (w : WrittenTopology). w.name) (λ s w h. h.name) of_topologies topology_texts (items source) d.topologies are.topologies
      (source_once source once) each_named
