-- Types of which what is written breaks no rule of members, sizes and constants, and what soundness asks of types.
use Rattle.std.specs.Prelude.{◌≡◌, ℕ, true, ℤ, List, map, Some, slice_get}
use Rattle.std.specs.List.{list_all}
use Rattle.fp_base.specs.declared.value.Value.{Enumerated}
use Rattle.fp_tables.specs.Sound.{form_differs, form_is_of_size}
use Rattle.fp_tables.specs.Types.{Leads, type_has_values, is_of_size}
use Rattle.fp_tables.specs.declared.kind.Kind.{Kind}
use Rattle.fp_tables.specs.declared.kind.Form.{Form}
use Rattle.fp_tables.specs.declared.kind.Form.TheVariants as form
use Rattle.fp_tables.specs.declared.kind.Constant.{Constant}
use Rattle.fp_tables.specs.declared.kind.TypeDef.{TypeDef}
use Rattle.fp_type_sizes.specs.declared.written.WrittenType.{WrittenType}
use Rattle.fp_type_sizes.specs.Sizes.{HasForm, IsInteger}
use Rattle.fp_types.specs.Converting.{IsWithin}
use Rattle.fp_types.specs.Given.{AreTypesGiven}

-- a constant is named by its enumeration and itself, and has a number of the representation
pub record IsOwnConstant (ws : List WrittenType) (name : List ℕ) (repr : Kind) (c : Constant) : Type 0 where
  pub number : ℤ
  pub value : c.value ≡ Enumerated name c.name number
  pub low : ℤ
  pub high : ℤ
  pub integer : IsInteger ws repr low high
  pub within : IsWithin low high number

abbrev pub HasOwnConstants : List WrittenType → List ℕ → Form → Type 0
HasOwnConstants ws name (form.Enum repr cs) = (j : ℕ) (c : Constant) → slice_get cs j ≡ Some c → IsOwnConstant ws name repr c
HasOwnConstants ws name _ = Unit {0}

-- the members of a type differ, arrays have 1 to 256 items, and constants are those of their enumerations
pub record AreWellWritten (ws : List WrittenType) : Type 0 where
  pub members_differ : (i : ℕ) (f : Form) → HasForm ws i f → form_differs f ≡ true
  pub arrays_are_of_size : (i : ℕ) (f : Form) → HasForm ws i f → form_is_of_size f ≡ true
  pub constants_are_own : (i : ℕ) (w : WrittenType) (f : Form) → slice_get ws i ≡ Some w → w.form ≡ Some f → HasOwnConstants ws w.name f

-- each type is given, and these are they
abbrev pub AllGiven : List WrittenType → List TypeDef → Type 0
AllGiven ws types = AreTypesGiven ws (map (λ (d : TypeDef). Some d) types)

-- what soundness asks of types, but for the length of chains
pub record AreSoundTypes (types : List TypeDef) : Type 0 where
  pub no_type_uses_itself : (i : ℕ) → Leads types i i → ⊥
  pub types_have_their_values : list_all (type_has_values types) types ≡ true
  pub members_differ : list_all (λ (d : TypeDef). form_differs d.form) types ≡ true
  pub arrays_are_of_size : list_all (λ (d : TypeDef). form_is_of_size d.form) types ≡ true
  pub defaults_are_of_size : list_all (λ (d : TypeDef). is_of_size d.default) types ≡ true
