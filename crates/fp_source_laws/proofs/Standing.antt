-- What a source breaks beside rules of names is broken at its places.
use Rattle.std.proofs.Common.{List, inl, inr}
use Rattle.std.specs.List.{AllByRecursion as Each}
use Rattle.fp_base.specs.declared.refusal.Refusal.{Refusal}
use Rattle.fp_base.specs.Least.{IsUnbroken}
use Rattle.fp_base.proofs.Lists.{each_contained, of_item}
use Rattle.fp_tree.specs.declared.source.Source.{Source}
use Rattle.fp_tables.specs.declared.kind.TypeDef.{TypeDef}
use Rattle.fp_meaning.specs.Layout.{items}
use Rattle.fp_component_forms.specs.declared.writing.WrittenSource.{WrittenSource}
use Rattle.fp_component_forms.specs.Written.{IsWrittenSource}
use Rattle.fp_source_parts.specs.Broken.{BrokenBy, PartsBroken}
use Rattle.fp_source_parts.specs.Machines.{externals}
use Rattle.fp_written_parts.specs.declared.topology.WrittenDeployment.{WrittenDeployment}
use Rattle.fp_topology_forms.specs.Written.{IsWrittenDeployment}
use Rattle.fp_topologies.specs.ImportLaws.{UnbrokenAreClosed}
use Rattle.fp_topologies.specs.Laws.{HaveClosures}
use Rattle.fp_source_parts.specs.TopologyBroken.{SourceInstancesBroken, SourceNumbersBroken, SourceTopologiesBroken, deployed}
use Rattle.fp_model.specs.Broken.{StatesBroken, ValuesBroken}
use Rattle.fp_places.specs.Places.{places_of}
use Rattle.fp_places.proofs.Definitions.{StandOf}
use Rattle.fp_source_laws.specs.Standing.{IsPlaceOf}
use Rattle.fp_source_laws.proofs.Constants.{constants_placed}
use Rattle.fp_source_laws.proofs.Conversions.{conversions_placed}
use Rattle.fp_source_laws.proofs.Dictionaries.{dictionary_placed}
use Rattle.fp_source_laws.proofs.Formats.{formats_placed}
use Rattle.fp_source_laws.proofs.InstanceRules.{instances_placed as component_instances_placed}
use Rattle.fp_source_laws.proofs.LinkPlaces.{links_stand}
use Rattle.fp_source_laws.proofs.NumberRules.{numbers_placed}
use Rattle.fp_source_laws.proofs.PartForms.{part_forms_placed}
use Rattle.fp_source_laws.proofs.Phases.{phases_placed}
use Rattle.fp_source_laws.proofs.PortRules.{ports_placed}
use Rattle.fp_source_laws.proofs.States.{instances_placed, machines_placed}
use Rattle.fp_source_laws.proofs.TopologyRules.{topologies_placed}
use Rattle.fp_source_laws.proofs.Types.{types_broken}
use Rattle.fp_source_laws.proofs.Wholes.{wholes_placed}
use Rattle.fp_source_laws.proofs.WrittenDeployment.{InstanceStands, TopologyStands, instances_stand, topologies_stand}
use Rattle.fp_source_laws.proofs.WrittenSource.{ComponentStands, InterfaceStands, components_stand, definitions_stand, interfaces_stand}

-- each place of an item of the source is one
all_stand : (source : Source) → Each (StandOf (IsPlaceOf source)) (items source)
all_stand source =
    each_contained (StandOf (IsPlaceOf source)) (items source)
    (λ i there. each_contained (IsPlaceOf source) (places_of i) (λ place among. (i, there, among)))

pub values_placed : (source : Source) (f : Refusal) → ValuesBroken source f → IsPlaceOf source f.place
values_placed source f (inl b) = constants_placed (IsPlaceOf source) source (all_stand source) f b
values_placed source f (inr (inl b)) = types_broken (IsPlaceOf source) source (all_stand source) f b
values_placed source f (inr (inr (inl b))) = formats_placed (IsPlaceOf source) source (all_stand source) f b
values_placed source f (inr (inr (inr (inl b)))) = part_forms_placed (IsPlaceOf source) source (all_stand source) f b
values_placed source f (inr (inr (inr (inr (inl (ws, are, b)))))) = conversions_placed (IsPlaceOf source) source ws (all_stand source) f b
values_placed source f (inr (inr (inr (inr (inr b))))) = phases_placed (IsPlaceOf source) source (all_stand source) f b

module _ (source : Source) (w : WrittenSource) (are : IsWrittenSource source w) where
  interfaces_placed : Each (InterfaceStands (IsPlaceOf source)) w.interfaces
  interfaces_placed = interfaces_stand (IsPlaceOf source) source (all_stand source) w are

  components_placed : Each (ComponentStands (IsPlaceOf source)) w.components
  components_placed = components_stand (IsPlaceOf source) source (all_stand source) w are

  written_placed : (types : List TypeDef) (f : Refusal) → BrokenBy types w f → IsPlaceOf source f.place
  written_placed types f (inl b) =
      ports_placed (IsPlaceOf source) w.definitions w.interfaces w.components f (definitions_stand (IsPlaceOf source) source (all_stand source) w are) interfaces_placed components_placed b
  written_placed types f (inr (inl (k, c, at, b))) =
      dictionary_placed (IsPlaceOf source) types c f (of_item (ComponentStands (IsPlaceOf source)) w.components k c components_placed at) b
  written_placed types f (inr (inr b)) = wholes_placed (IsPlaceOf source) w.interfaces w.components f interfaces_placed components_placed b

pub parts_placed : (source : Source) (f : Refusal) → PartsBroken source f → IsPlaceOf source f.place
parts_placed source f b = written_placed source b.written b.are b.types f b.broken

pub states_placed : (source : Source) (f : Refusal) → StatesBroken source f → IsPlaceOf source f.place
states_placed source f (inl b) = machines_placed (IsPlaceOf source) source (all_stand source) f b
states_placed source f (inr b) = instances_placed (IsPlaceOf source) (externals source) b.written.components f (components_placed source b.written b.are) b.broken

-- ---- instances and topologies

module _ (source : Source) (w : WrittenDeployment) (are : IsWrittenDeployment source w) where
  all_instances : Each (InstanceStands (IsPlaceOf source)) w.instances
  all_instances = instances_stand (IsPlaceOf source) source (all_stand source) w are

  all_topologies : Each (TopologyStands (IsPlaceOf source)) w.topologies
  all_topologies = topologies_stand (IsPlaceOf source) source (all_stand source) w are

pub source_instances_placed : (source : Source) (f : Refusal) → SourceInstancesBroken source f → IsPlaceOf source f.place
source_instances_placed source f b =
    component_instances_placed (IsPlaceOf source) b.parts.components b.written.instances f (all_instances source b.written b.are.deployment) b.broken

pub source_topologies_placed : (source : Source) (f : Refusal) → SourceTopologiesBroken source f → IsPlaceOf source f.place
source_topologies_placed source f b =
    topologies_placed (IsPlaceOf source) b.parts.ports b.parts.components b.instances b.written.topologies f (all_topologies source b.written b.are.deployment) b.broken

-- where topologies break no rule, no import is on a cycle
closures_there : (source : Source) (f : Refusal) (b : SourceNumbersBroken source f) → UnbrokenAreClosed → IsUnbroken (SourceTopologiesBroken source) → HaveClosures b.written.topologies
closures_there source f b law unbroken closures closed t low =
    law b.written.topologies closures closed
    (λ g broken. unbroken g (record {
      parts = b.parts;
      written = b.written;
      are = b.are;
      instances = b.instances;
      built = b.built;
      broken = record { closures = closures; closed = closed; broken = inl broken };
    })) t low

pub source_numbers_placed : UnbrokenAreClosed → (source : Source) (f : Refusal) → IsUnbroken (SourceTopologiesBroken source) → SourceNumbersBroken source f → IsPlaceOf source f.place
source_numbers_placed law source f unbroken b =
    numbers_placed (IsPlaceOf source) (deployed b.parts.ports b.parts.components b.instances b.topologies) f
    (links_stand (IsPlaceOf source) b.parts.ports b.parts.components b.instances b.written.topologies b.topologies (closures_there source f b law unbroken)
    (all_topologies source b.written b.are.deployment) b.joined) b.broken
