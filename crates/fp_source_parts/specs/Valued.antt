-- A source whose names and values break no rule. FPP Language Specification, "Definitions".
use Rattle.std.specs.Prelude.{List, map, Option, Some}
use Rattle.fp_base.specs.declared.value.Value.{Value}
use Rattle.fp_base.specs.Least.{IsUnbroken}
use Rattle.fp_tree.specs.declared.source.Source.{Source}
use Rattle.fp_tables.specs.declared.kind.TypeDef.{TypeDef}
use Rattle.fp_meaning.specs.Layout.{items}
use Rattle.fp_type_sizes.specs.declared.written.WrittenType.{WrittenType}
use Rattle.fp_type_forms.specs.declared.resolving.Resolution.{Resolution}
use Rattle.fp_type_forms.specs.Resolved.{AreResolved}
use Rattle.fp_type_forms.specs.Written.{AreWritten}
use Rattle.fp_type_formats.specs.Broken.{FormatsBroken}
use Rattle.fp_source_types.specs.Broken.{TypesBroken}
use Rattle.fp_source_types.specs.Typed.{AreTypesOf}
use Rattle.fp_part_values.specs.FormBroken.{PartFormsBroken}
use Rattle.fp_part_values.specs.FormStanding.{AreValued}
use Rattle.fp_part_values.specs.Broken.{PartValuesBroken}

-- each use has its meaning and each expression its value, what is written of the types is this and gives these, and neither types nor formats nor what
-- belongs to definitions break a rule of values
pub record IsValued (source : Source) (values : List (Option Value)) (resolutions : List Resolution) (ws : List WrittenType) (types : List TypeDef) : Type 0 where
  pub resolved : AreResolved source values resolutions (items source) 0
  pub valued : AreValued source
  pub written : AreWritten source ws
  pub given : AreTypesOf source (map (λ (d : TypeDef). Some d) types)
  pub types_unbroken : IsUnbroken (TypesBroken source)
  pub formats_unbroken : IsUnbroken (FormatsBroken source)
  pub forms_unbroken : IsUnbroken (PartFormsBroken source)
  pub conversions_unbroken : IsUnbroken (PartValuesBroken source ws)
