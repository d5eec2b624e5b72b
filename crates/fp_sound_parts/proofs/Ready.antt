-- What is written of the ports and components of a source that breaks no rule is ready, so that what it comes to is sound.
use Rattle.std.proofs.Common.{◌≡◌, ℕ, true, List, map, slice_get, Option, Some, inl, inr, sym, subst}
use Rattle.std.specs.List.{list_all}
use Rattle.fp_base.specs.declared.value.Value.{Value}
use Rattle.fp_base.specs.Least.{InSome, IsUnbroken}
use Rattle.fp_tree.specs.declared.source.Source.{Source}
use Rattle.fp_meaning.specs.Broken.{BrokenByDefinitions}
use Rattle.fp_meaning.specs.declared.item.Item.{Item}
use Rattle.fp_names.specs.Named.{PartsAreNamed}
use Rattle.fp_tables.specs.Positions.{component_is_short}
use Rattle.fp_tables.specs.declared.component.Component.{Component}
use Rattle.fp_tables.specs.declared.kind.Kind.TheVariants as kind
use Rattle.fp_tables.specs.declared.kind.PortDef.{PortDef}
use Rattle.fp_tables.specs.declared.kind.TypeDef.{TypeDef}
use Rattle.fp_tables.specs.declared.machine.Machine.{Machine}
use Rattle.fp_type_sizes.specs.declared.written.WrittenType.{WrittenType}
use Rattle.fp_types.specs.WellWritten.{AreSoundTypes}
use Rattle.fp_type_formats.specs.Broken.{BrokenByFormats}
use Rattle.fp_type_formats.specs.Readable.{AreReadable}
use Rattle.fp_type_forms.specs.declared.resolving.Resolution.{Resolution}
use Rattle.fp_source_types.specs.Broken.{TypesBroken}
use Rattle.fp_source_types.specs.Named.{DefinitionsAreNamed}
use Rattle.fp_source_types.specs.Typed.{AreTypesOf}
use Rattle.fp_written_parts.specs.declared.member.WrittenComponent.{WrittenComponent}
use Rattle.fp_written_parts.specs.declared.member.WrittenInterface.{WrittenInterface}
use Rattle.fp_written_parts.specs.declared.port.WrittenPortDef.{WrittenPortDef}
use Rattle.fp_dictdefs.specs.Broken.{DictionaryBroken}
use Rattle.fp_component_rules.specs.PortBroken.{PortsBroken}
use Rattle.fp_component_rules.specs.Broken.{ComponentsBroken}
use Rattle.fp_components.specs.Resolved.{AreComponents, port_def_of}
use Rattle.fp_source_parts.specs.Broken.{BrokenBy, PartsBroken}
use Rattle.fp_source_parts.specs.Built.{ArePartsOf}
use Rattle.fp_source_parts.specs.Machines.{InstancesBroken}
use Rattle.fp_source_parts.specs.Valued.{IsValued}
use Rattle.fp_source_parts.specs.declared.parts.Parts.{Parts}
use Rattle.fp_source_parts.specs.MachineBuilt.{AreMachinesOf}
use Rattle.fp_sound_parts.specs.Ready.{AreReady}
use Rattle.fp_sound_parts.specs.ComponentSound.{AreSound}
use Rattle.fp_sound_parts.proofs.Fitting.{LimitsConvert, PartNumbersStand, limits_fit}
use Rattle.fp_sound_parts.proofs.Formats.{formats_agree}
use Rattle.fp_sound_parts.proofs.Good.{ConvertedHasKind, ConvertedIsOfSize, DefaultHasForm, OneDefault, all_given, converted_good, defaults_good}
use Rattle.fp_sound_parts.proofs.Lying.{definitions_lie, members_lie}
use Rattle.fp_sound_parts.proofs.Named.{components_are_qualified, definitions_are_qualified, definitions_have_names, members_have_names}
use Rattle.fp_sound_parts.proofs.Running.{running_differ, running_fit}
use Rattle.fp_sound_parts.proofs.Suiting.{ports_have_their_definitions}

-- the laws of the crates below on which this stands
pub record Laws : Type 0 where
  pub resolved_sound : (types : List TypeDef) (machines : List Machine) (ws : List WrittenType) (definitions : List WrittenPortDef) (interfaces : List WrittenInterface) (written : List WrittenComponent) (cs : List Component)
      → AreReady types machines ws definitions interfaces written cs → IsUnbroken (PortsBroken definitions interfaces written) → IsUnbroken (InSome (λ (k : ℕ). DictionaryBroken types) written)
      → IsUnbroken (ComponentsBroken interfaces written) → AreComponents interfaces definitions ws written cs → AreSound types machines (map port_def_of definitions) cs
  pub numbers_stand : PartNumbersStand
  pub limits_convert : LimitsConvert
  pub formats_read : (is : List Item) → IsUnbroken (BrokenByFormats is) → (k : ℕ) (i : Item) → slice_get is k ≡ Some i → AreReadable is i
  pub types_sound : (source : Source) (types : List TypeDef) → IsUnbroken (BrokenByDefinitions source) → IsUnbroken (TypesBroken source) → AreTypesOf source (map (λ (d : TypeDef). Some d) types)
      → AreSoundTypes types
  pub has_kind : ConvertedHasKind
  pub is_of_size : ConvertedIsOfSize
  pub has_form : DefaultHasForm
  pub one_default : OneDefault

module _ (laws : Laws) (source : Source) (values : List (Option Value)) (resolutions : List Resolution) (ws : List WrittenType) (types : List TypeDef) (machines : List Machine) (parts : Parts)
    (valued : IsValued source values resolutions ws types) (once : IsUnbroken (BrokenByDefinitions source)) (definitions : DefinitionsAreNamed source) (named : PartsAreNamed source)
    (unbroken : IsUnbroken (PartsBroken source)) (running : IsUnbroken (InstancesBroken source)) (built : AreMachinesOf source machines) (of : ArePartsOf source ws parts) (short : list_all component_is_short parts.components ≡ true) where
  sound : AreSoundTypes types
  sound = laws.types_sound source types once valued.types_unbroken valued.given

  -- what is written breaks no rule among these types
  written_unbroken : IsUnbroken (BrokenBy types of.written)
  written_unbroken f broken = unbroken f (record { written = of.written; are = of.are; types = types; given = valued.given; broken = broken })

  ready : AreReady types machines ws of.written.definitions of.written.interfaces of.written.components parts.components
  ready =
      let given = all_given source values resolutions ws types valued in
      record {
        members_have_names = members_have_names source of.written of.are definitions named;
        definitions_have_names = definitions_have_names source of.written of.are definitions named;
        definitions_are_qualified = definitions_are_qualified source of.written of.are definitions named;
        components_are_qualified = components_are_qualified source of.written of.are definitions named;
        members_lie = members_lie source of.written of.are types valued.given;
        definitions_lie = definitions_lie source of.written of.are types valued.given;
        ports_have_their_definitions = ports_have_their_definitions source of.written of.are;
        running_fit = running_fit source of.written of.are machines built running;
        running_differ = running_differ source of.written of.are running;
        limits_fit = limits_fit source values resolutions ws types of.written valued of.are written_unbroken sound laws.numbers_stand laws.limits_convert laws.has_kind;
        formats_agree = formats_agree source values resolutions ws types of.written valued of.are laws.formats_read laws.numbers_stand;
        converted_values_are_good = converted_good ws types given sound laws.has_kind laws.is_of_size;
        defaults_are_good = defaults_good ws types given sound laws.one_default laws.has_form;
        components_are_short = short;
      }

  pub parts_sound : AreSound types machines parts.ports parts.components
  parts_sound =
      subst (λ (ports : List PortDef). AreSound types machines ports parts.components) (sym of.ports)
      (laws.resolved_sound types machines ws of.written.definitions of.written.interfaces of.written.components parts.components ready
      (λ f broken. written_unbroken f (inl broken)) (λ f broken. written_unbroken f (inr (inl broken))) (λ f broken. written_unbroken f (inr (inr broken))) of.components)
