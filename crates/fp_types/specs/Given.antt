-- What is found of the defaults of types, and the types with their defaults.
use Rattle.std.specs.Prelude.{◌≡◌, ℕ, List, length, Option, Some, slice_get}
use Rattle.fp_base.specs.declared.value.Value.{Value}
use Rattle.fp_tables.specs.declared.kind.Kind.{Kind}
use Rattle.fp_tables.specs.declared.kind.Kind.TheVariants as kind
use Rattle.fp_tables.specs.declared.kind.Form.{Form}
use Rattle.fp_tables.specs.declared.kind.TypeDef.{TypeDef}
use Rattle.fp_type_sizes.specs.declared.written.WrittenType.{WrittenType}
use Rattle.fp_type_sizes.specs.Sizes.{HasForm}
use Rattle.fp_types.specs.Converting.{DefaultIs}

-- it is the default, if there is one
pub record IsDefaultIf (ws : List WrittenType) (k : Kind) (o : Option Value) : Type 0 where
  pub holds : (v : Value) → o ≡ Some v → DefaultIs ws k v
  pub only : (v : Value) → DefaultIs ws k v → o ≡ Some v

pub record AreDefaults (ws : List WrittenType) (table : List (Option Value)) : Type 0 where
  pub each : length table ≡ length ws
  pub at : (i : ℕ) (o : Option Value) → slice_get table i ≡ Some o → IsDefaultIf ws (kind.Named i) o

-- a type is given exactly where its form and its default exist
pub record IsTypeGiven (ws : List WrittenType) (i : ℕ) (o : Option TypeDef) : Type 0 where
  pub holds : (d : TypeDef) → o ≡ Some d → HasForm ws i d.form × DefaultIs ws (kind.Named i) d.default
  pub names : (d : TypeDef) (w : WrittenType) → o ≡ Some d → slice_get ws i ≡ Some w → (d.name ≡ w.name) × (d.note ≡ w.note)
  pub only : (f : Form) (v : Value) → HasForm ws i f → DefaultIs ws (kind.Named i) v → (d : TypeDef) × (o ≡ Some d)

pub record AreTypesGiven (ws : List WrittenType) (given : List (Option TypeDef)) : Type 0 where
  pub each : length given ≡ length ws
  pub at : (i : ℕ) (o : Option TypeDef) → slice_get given i ≡ Some o → IsTypeGiven ws i o
