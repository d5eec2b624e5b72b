-- The model that a source defines. FPP Language Specification, "Definitions".
use Rattle.std.specs.Prelude.{◌≡◌, ℕ, List, map, slice_get, Some}
use Rattle.fp_component_forms.specs.Written.{qualified}
use Rattle.fp_tree.specs.declared.source.Source.{Source}
use Rattle.fp_tables.specs.declared.kind.Constant.{Constant}
use Rattle.fp_tables.specs.declared.kind.TypeDef.{TypeDef}
use Rattle.fp_tables.specs.declared.kind.PortDef.{PortDef}
use Rattle.fp_tables.specs.declared.component.Component.{Component}
use Rattle.fp_tables.specs.declared.machine.Machine.{Machine}
use Rattle.fp_tables.specs.declared.model.Item.{Item as Ordered}
use Rattle.fp_tables.specs.declared.model.Model.{Model}
use Rattle.fp_tables.specs.declared.topology.Instance.{Instance}
use Rattle.fp_tables.specs.declared.topology.Topology.{Topology}
use Rattle.fp_meaning.specs.Values.{opened, Val}
use Rattle.fp_type_sizes.specs.declared.written.WrittenType.{WrittenType}
use Rattle.fp_type_forms.specs.Written.{AllAt, AreWritten}
use Rattle.fp_source_types.specs.Typed.{AreTypesOf}
use Rattle.fp_source_parts.specs.Built.{ArePartsOf}
use Rattle.fp_source_parts.specs.MachineBuilt.{AreMachinesOf}
use Rattle.fp_source_parts.specs.TopologyBuilt.{AreInstancesOf, AreTopologiesOf}
use Rattle.fp_numbering.specs.Answers.{AreNumbered}
use Rattle.fp_model.specs.Definitions as written
use Rattle.fp_model.specs.Definitions.{ConstantHere}

-- a constant by its qualified name, with the value of its expression and its own annotation
pub record IsConstant (source : Source) (h : ConstantHere) (c : Constant) : Type 0 where
  pub name : c.name ≡ qualified h.scope h.constant.name
  pub value : Val source h.scope (opened h.constant.value) c.value
  pub note : c.note ≡ h.constant.note

abbrev pub AreConstants : Source → List ConstantHere → List Constant → Type 0
AreConstants source hs cs = AllAt (λ position. IsConstant source) 0 hs cs

-- the definitions of ports, and the components, over what is written of the types
abbrev pub HasParts : Source → Model → Type 0
HasParts source m = (ws : List WrittenType) × AreWritten source ws × ArePartsOf source ws (record { ports = m.ports; components = m.components })

-- the connections of each topology, with their numbers
abbrev pub AreWired : Model → Type 0
AreWired m = (t : ℕ) (o : Topology) → slice_get m.topologies t ≡ Some o → AreNumbered m o.links o.wires

-- the constants, the types, each given, the ports, the components, the state machines, the instances and the topologies, all in the order of the source
pub record Defined (source : Source) (m : Model) : Type 0 where
  pub constants : AreConstants source (written.constants source) m.constants
  pub types : AreTypesOf source (map (λ (d : TypeDef). Some d) m.types)
  pub parts : HasParts source m
  pub machines : AreMachinesOf source m.machines
  pub instances : AreInstancesOf source m.instances
  pub topologies : AreTopologiesOf source m.ports m.components m.instances m.topologies
  pub wires : AreWired m
  pub order : m.order ≡ written.order source

-- the model of these lists
abbrev pub model_with : List Constant → List TypeDef → List PortDef → List Component → List Machine → List Instance → List Topology → List Ordered → Model
model_with cs ts ps xs ms is ls os = record {
  constants = cs;
  types = ts;
  ports = ps;
  components = xs;
  machines = ms;
  instances = is;
  topologies = ls;
  order = os;
}
