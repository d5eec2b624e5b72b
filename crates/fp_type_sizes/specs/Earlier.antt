-- Types of which none uses one that stands behind it.
use Rattle.std.specs.Prelude.{◌≡◌, ℕ, Bool, true, nat_le, List, length, Some, slice_get}
use Rattle.std.specs.List.{list_all}
use Rattle.fp_tables.specs.Lists.{all_from, if_some}
use Rattle.fp_tables.specs.declared.kind.Kind.{Kind}
use Rattle.fp_tables.specs.declared.kind.Kind.TheVariants as kind
use Rattle.fp_tables.specs.declared.kind.Form.{Form}
use Rattle.fp_tables.specs.declared.kind.Form.TheVariants as form
use Rattle.fp_tables.specs.declared.kind.Field.{Field}
use Rattle.fp_type_sizes.specs.declared.written.WrittenType.{WrittenType}

abbrev pub is_not_later : ℕ → Kind → Bool
is_not_later at (kind.Named i) = nat_le i at
is_not_later at _ = true

abbrev pub form_uses_earlier : ℕ → Form → Bool
form_uses_earlier at form.Abstract = true
form_uses_earlier at (form.Alias k) = is_not_later at k
form_uses_earlier at (form.Array size element format) = is_not_later at element
form_uses_earlier at (form.Struct fields) = list_all (λ (f : Field). is_not_later at f.kind) fields
form_uses_earlier at (form.Enum repr cs) = is_not_later at repr

abbrev pub uses_earlier : List WrittenType → Bool
uses_earlier ws = all_from (λ at (w : WrittenType). if_some (form_uses_earlier at) w.form) 0 ws

-- the numbers below one, in order
pub record AreNumbers (count : ℕ) (numbers : List ℕ) : Type 0 where
  pub each : length numbers ≡ count
  pub at : (k v : ℕ) → slice_get numbers k ≡ Some v → v ≡ k
