-- What a source breaks, phase by phase: the rules of names; then those of values, which are those of constants, of types, of formats, of what
-- belongs to components and of phases of instances; then those of ports, dictionaries and components; those of state machines and their instances; those of instances of
-- components; those of topologies; and then those of numbering, over all topologies.
use Rattle.std.specs.Prelude.{List, [], ◌∷◌}
use Rattle.fp_base.specs.declared.refusal.Refusal.{Refusal}
use Rattle.fp_base.specs.Least.{Either}
use Rattle.fp_tree.specs.declared.source.Source.{Source}
use Rattle.fp_meaning.specs.Broken.{NamesBroken}
use Rattle.fp_meaning.specs.ConstantFaults.{ConstantsBroken}
use Rattle.fp_part_values.specs.Phases.{PhasesBroken}
use Rattle.fp_type_sizes.specs.declared.written.WrittenType.{WrittenType}
use Rattle.fp_type_forms.specs.Written.{AreWritten}
use Rattle.fp_source_types.specs.Broken.{TypesBroken}
use Rattle.fp_type_formats.specs.Broken.{FormatsBroken}
use Rattle.fp_part_values.specs.FormBroken.{PartFormsBroken}
use Rattle.fp_part_values.specs.Broken.{PartValuesBroken}
use Rattle.fp_source_parts.specs.Broken.{PartsBroken}
use Rattle.fp_source_parts.specs.Machines.{InstancesBroken}
use Rattle.fp_source_parts.specs.MachineBroken.{MachinesBroken}
use Rattle.fp_source_parts.specs.TopologyBroken.{SourceInstancesBroken, SourceNumbersBroken, SourceTopologiesBroken}
use Rattle.fp_model.specs.Phases.{InPhases}

-- what is written of the types is one list
abbrev pub ConversionsBroken : Source → Refusal → Type 0
ConversionsBroken source f = (ws : List WrittenType) × AreWritten source ws × PartValuesBroken source ws f

-- they are of one phase, so that the least of all counts
abbrev pub ValuesBroken : Source → Refusal → Type 0
ValuesBroken source =
    Either (ConstantsBroken source) (Either (TypesBroken source) (Either (FormatsBroken source)
    (Either (PartFormsBroken source) (Either (ConversionsBroken source) (PhasesBroken source)))))

-- of the machines, and of instances of them in components
abbrev pub StatesBroken : Source → Refusal → Type 0
StatesBroken source = Either (MachinesBroken source) (InstancesBroken source)

-- the earliest first
abbrev pub phases : Source → List (Refusal → Type 0)
phases source =
    NamesBroken source ∷ ValuesBroken source ∷ PartsBroken source ∷ StatesBroken source ∷ SourceInstancesBroken source ∷ SourceTopologiesBroken source
    ∷ SourceNumbersBroken source ∷ []

-- broken in the earliest phase in which something is
abbrev pub ModelBroken : Source → Refusal → Type 0
ModelBroken source = InPhases (phases source)
