-- The rules that the types of a source break, and where each is broken: by cycles and long chains of their names, by what is written of
-- their parts, by their sizes and by their defaults. A rule that needs a value, a form or a type that doesn't exist isn't broken for want of it.
-- FPP Language Specification, "Type Names", "Array Definitions", "Struct Definitions", "Enum Definitions", "Type Conversion".
use Rattle.std.specs.Prelude.{List, flat_map, map}
use Rattle.fp_base.specs.declared.refusal.Refusal.{Refusal}
use Rattle.fp_base.specs.Least.{Either, InSome}
use Rattle.fp_tree.specs.declared.source.Source.{Source}
use Rattle.fp_meaning.specs.declared.group.Group.TheVariants.{Kind}
use Rattle.fp_meaning.specs.declared.item.Item.{Item}
use Rattle.fp_meaning.specs.Layout.{items}
use Rattle.fp_meaning.specs.Uses.{BrokenByChains}
use Rattle.fp_type_forms.specs.Broken.{FormsBroken}
use Rattle.fp_type_forms.specs.Written.{AreWritten, types, types_of}
use Rattle.fp_type_sizes.specs.declared.written.WrittenType.{WrittenType}
use Rattle.fp_type_sizes.specs.Large.{IsTypeLarge}
use Rattle.fp_types.specs.Faults.{IsBadDefault}
use Rattle.fp_source_types.specs.Places.{default_place, name_place}

module _ (source : Source) (ws : List WrittenType) where
  -- more than 65,536 leaves or 64 levels, at the name of the type
  abbrev pub BrokenBySizes : Refusal → Type 0
  BrokenBySizes = InSome (IsTypeLarge ws) (map name_place (types source))

  -- no conversion of what stands behind `default`, at its first byte
  abbrev pub BrokenByDefaults : Refusal → Type 0
  BrokenByDefaults = InSome (IsBadDefault ws) (map default_place (types source))

  abbrev pub TypesBrokenBy : Refusal → Type 0
  TypesBrokenBy = Either (BrokenByChains (items source) Kind) (Either (FormsBroken source ws) (Either BrokenBySizes BrokenByDefaults))

-- the rules that the types among items break each as a whole
abbrev pub WholesBroken : List Item → List WrittenType → Refusal → Type 0
WholesBroken is ws =
    Either (BrokenByChains is Kind) (Either (InSome (IsTypeLarge ws) (map name_place (flat_map types_of is))) (InSome (IsBadDefault ws) (map default_place (flat_map types_of is))))

-- by what is written of the types of a source, which is one list
pub record TypesBroken (source : Source) (f : Refusal) : Type 0 where
  pub written : List WrittenType
  pub are : AreWritten source written
  pub broken : TypesBrokenBy source written f
