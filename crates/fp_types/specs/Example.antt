-- A struct whose own default doesn't convert, and an array of it that gives every member.
use Rattle.std.specs.Prelude.{ℤ, pos, List, [], ◌∷◌, Some, None}
use Rattle.fp_base.specs.declared.value.Value.{Value, Int, Array, Struct}
use Rattle.fp_tables.specs.declared.kind.Kind.TheVariants as kind
use Rattle.fp_tables.specs.declared.kind.Form.TheVariants as form
use Rattle.fp_tables.specs.declared.kind.Field.{Field}
use Rattle.fp_type_sizes.specs.declared.written.WrittenType.{WrittenType}
use Rattle.fp_type_sizes.specs.declared.written.Own.TheVariants as own

-- { x = n }
abbrev pub with_x : ℤ → Value
with_x n = Struct (record { name = 120 ∷ []; value = Int n } ∷ [])

abbrev pub x_field : Field
x_field = record { name = 120 ∷ []; size = None; kind = kind.U8; format = None; note = [] }

-- struct S { x: U8 } default { x = 300 }
abbrev pub the_struct : WrittenType
the_struct = record { name = 83 ∷ []; form = Some (form.Struct (x_field ∷ [])); default = own.Has (with_x (pos 300)); note = [] }

-- array B = [1] S default [{ x = 1 }]
abbrev pub the_array : WrittenType
the_array = record { name = 66 ∷ []; form = Some (form.Array 1 (kind.Named 0) None); default = own.Has (Array (with_x (pos 1) ∷ [])); note = [] }

abbrev pub example : List WrittenType
example = the_struct ∷ the_array ∷ []

abbrev pub second_default : Value
second_default = Array (with_x (pos 1) ∷ [])
