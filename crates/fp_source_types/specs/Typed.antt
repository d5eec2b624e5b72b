-- The types of a source, in source order: each with its form and its default, where both exist. A type is named by its position among them.
-- FPP Language Specification, "Abstract Type Definitions", "Type Alias Definitions", "Array Definitions", "Struct Definitions", "Enum
-- Definitions".
use Rattle.std.specs.Prelude.{List, Option}
use Rattle.fp_tree.specs.declared.source.Source.{Source}
use Rattle.fp_tables.specs.declared.kind.TypeDef.{TypeDef}
use Rattle.fp_type_sizes.specs.declared.written.WrittenType.{WrittenType}
use Rattle.fp_type_forms.specs.Written.{AreWritten}
use Rattle.fp_types.specs.Given.{AreTypesGiven}

-- what is written of them gives these: a type exactly where it has a form and a default
pub record AreTypesOf (source : Source) (given : List (Option TypeDef)) : Type 0 where
  pub written : List WrittenType
  pub are : AreWritten source written
  pub types : AreTypesGiven written given
