-- Types of which what is written breaks no rule of sizes and of defaults, and wants for nothing.
use Rattle.std.specs.Prelude.{ℕ, ◌<◌, List, [], length}
use Rattle.fp_base.specs.declared.place.Place.{Place}
use Rattle.fp_base.specs.Least.{IsUnbroken}
use Rattle.fp_tables.specs.declared.kind.Kind.{Kind}
use Rattle.fp_tables.specs.declared.kind.Kind.TheVariants as kind
use Rattle.fp_tables.specs.declared.kind.Form.TheVariants as form
use Rattle.fp_type_sizes.specs.declared.written.WrittenType.{WrittenType}
use Rattle.fp_type_sizes.specs.declared.written.Own.TheVariants as own
use Rattle.fp_type_sizes.specs.Sizes.{HasForm, IsOfSize}
use Rattle.fp_types.specs.Converting.{HasOwn}
use Rattle.fp_types.specs.Faults.{IsBadDefault}

-- each type is of size; what stands behind `default` has a value, which breaks no rule of conversion, and an enumeration has a constant
pub record AreUnbroken (ws : List WrittenType) : Type 0 where
  pub of_size : (i : ℕ) → i < length ws → IsOfSize ws (kind.Named i)
  pub valued : (i : ℕ) → HasOwn ws i own.NoValue → ⊥
  pub fit : (i : ℕ) → i < length ws → (place : Place) × IsUnbroken (IsBadDefault ws i place)
  pub listed : (i : ℕ) (repr : Kind) → HasForm ws i (form.Enum repr []) → ⊥
