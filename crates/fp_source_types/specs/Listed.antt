-- What the grammar asks of enumerations. FPP Language Specification, "Enum Definitions".
use Rattle.std.specs.Prelude.{◌≡◌, ℕ, [], Some, slice_get}
use Rattle.fp_tree.specs.declared.source.Source.{Source}
use Rattle.fp_tree.specs.declared.definition.Def.{Def}
use Rattle.fp_tree.specs.declared.definition.Def.TheVariants as def
use Rattle.fp_meaning.specs.declared.item.Item.{Item}
use Rattle.fp_meaning.specs.declared.item.Item.TheVariants as item
use Rattle.fp_type_forms.specs.Written.{TypeHere, types}

-- an enumeration has a constant
abbrev pub HasConstants : Def → Type 0
HasConstants (def.Enum d) = d.constants ≡ [] → ⊥
HasConstants _ = Unit {0}

abbrev pub EnumsHaveConstants : Source → Type 0
EnumsHaveConstants source = (i : ℕ) (t : TypeHere) → slice_get (types source) i ≡ Some t → HasConstants t.definition

-- an enumeration that an item defines has a constant
abbrev pub IsListed : Item → Type 0
IsListed (item.Defined s) = HasConstants s.definition
IsListed _ = Unit {0}
