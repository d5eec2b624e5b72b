-- What a source comes to before the connections of its topologies are numbered. FPP Language Specification, "Definitions".
use Rattle.std.specs.Prelude.{◌≡◌, List, map, Some}
use Rattle.fp_base.specs.Least.{IsUnbroken}
use Rattle.fp_tree.specs.declared.source.Source.{Source}
use Rattle.fp_tables.specs.declared.kind.TypeDef.{TypeDef}
use Rattle.fp_tables.specs.declared.model.Model.{Model}
use Rattle.fp_meaning.specs.Broken.{NamesBroken}
use Rattle.fp_meaning.specs.Origins.{expressions}
use Rattle.fp_type_sizes.specs.declared.written.WrittenType.{WrittenType}
use Rattle.fp_type_forms.specs.Written.{AreWritten}
use Rattle.fp_source_types.specs.Typed.{AreTypesOf}
use Rattle.fp_source_parts.specs.Broken.{PartsBroken}
use Rattle.fp_source_parts.specs.Built.{ArePartsOf}
use Rattle.fp_source_parts.specs.Valued.{IsValued}
use Rattle.fp_source_parts.specs.declared.parts.Parts.{Parts}
use Rattle.fp_source_parts.specs.MachineBuilt.{AreMachinesOf}
use Rattle.fp_source_parts.specs.TopologyBroken.{SourceInstancesBroken, SourceTopologiesBroken}
use Rattle.fp_source_parts.specs.TopologyBuilt.{AreInstancesOf, AreTopologiesOf}
use Rattle.fp_topologies.specs.Resolved.{HaveNoWires}
use Rattle.fp_model.specs.declared.joining.Deployed.{Deployed}
use Rattle.fp_model.specs.declared.settling.Settled.{Settled}
use Rattle.fp_model.specs.Broken.{StatesBroken, ValuesBroken}
use Rattle.fp_model.specs.Defined.{AreConstants, HasParts}
use Rattle.fp_model.specs.Definitions as written
use Rattle.fp_model.specs.Given.{StandFrom}

-- ---- up to the state machines

-- no rule of the phases up to that of state machines is broken
pub record StatesHold (source : Source) : Type 0 where
  pub names : IsUnbroken (NamesBroken source)
  pub values : IsUnbroken (ValuesBroken source)
  pub parts : IsUnbroken (PartsBroken source)
  pub states : IsUnbroken (StatesBroken source)

-- the values, the types, the ports and components, and the state machines
pub record IsSettled (source : Source) (s : Settled) : Type 0 where
  pub stand : StandFrom source s.values (expressions source) 0
  pub valued : IsValued source s.values s.measured.resolutions s.measured.written s.types
  pub parts : ArePartsOf source s.measured.written s.parts
  pub machines : AreMachinesOf source s.machines

-- ---- up to the topologies

-- no rule of the phases before that of numbering is broken
pub record TopologiesHold (source : Source) : Type 0 where
  pub before : StatesHold source
  pub instances : IsUnbroken (SourceInstancesBroken source)
  pub topologies : IsUnbroken (SourceTopologiesBroken source)

-- over what is written of the types
abbrev pub AreParts : Source → Parts → Type 0
AreParts source parts = (ws : List WrittenType) × AreWritten source ws × ArePartsOf source ws parts

-- the instances and the topologies, without wires
pub record IsDeployed (source : Source) (parts : Parts) (d : Deployed) : Type 0 where
  pub instances : AreInstancesOf source d.instances
  pub topologies : AreTopologiesOf source parts.ports parts.components d.instances d.topologies
  pub wires : HaveNoWires d.topologies

-- all that the source defines; of the numbers of connections nothing is said here
pub record Joined (source : Source) (m : Model) : Type 0 where
  pub constants : AreConstants source (written.constants source) m.constants
  pub types : AreTypesOf source (map (λ (d : TypeDef). Some d) m.types)
  pub parts : HasParts source m
  pub machines : AreMachinesOf source m.machines
  pub instances : AreInstancesOf source m.instances
  pub topologies : AreTopologiesOf source m.ports m.components m.instances m.topologies
  pub order : m.order ≡ written.order source
