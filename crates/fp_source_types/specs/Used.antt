-- The types that a type uses in its form, by their numbers.
use Rattle.std.specs.Prelude.{ℕ, List, [], ◌∷◌, flat_map, Option, Some, None}
use Rattle.fp_tables.specs.declared.kind.Kind.{Kind}
use Rattle.fp_tables.specs.declared.kind.Kind.TheVariants as kind
use Rattle.fp_tables.specs.declared.kind.Form.{Form}
use Rattle.fp_tables.specs.declared.kind.Form.TheVariants as form
use Rattle.fp_tables.specs.declared.kind.Field.{Field}
use Rattle.fp_type_sizes.specs.declared.written.WrittenType.{WrittenType}

abbrev pub number_in : Kind → List ℕ
number_in (kind.Named i) = i ∷ []
number_in _ = []

abbrev pub used_in : Form → List ℕ
used_in form.Abstract = []
used_in (form.Alias k) = number_in k
used_in (form.Array size k format) = number_in k
used_in (form.Struct fields) = flat_map (λ (f : Field). number_in f.kind) fields
used_in (form.Enum k cs) = number_in k

abbrev pub used_if : Option Form → List ℕ
used_if None = []
used_if (Some f) = used_in f

abbrev pub used_by : WrittenType → List ℕ
used_by w = used_if w.form
