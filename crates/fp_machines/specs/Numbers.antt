-- A number for each type, behind its aliases: those with a reserved word first, then strings by their sizes and the types of the model by their
-- positions, in turn.
use Rattle.std.specs.Prelude.{ℕ, ◌+◌, ◌*◌, List, map, option_map, Option}
use Rattle.fp_tables.specs.Machines.{target}
use Rattle.fp_tables.specs.declared.kind.Kind.{Kind}
use Rattle.fp_tables.specs.declared.kind.Kind.TheVariants as kind
use Rattle.fp_tables.specs.declared.kind.TypeDef.{TypeDef}

abbrev pub type_number : Kind → ℕ
type_number kind.U8 = 0
type_number kind.U16 = 1
type_number kind.U32 = 2
type_number kind.U64 = 3
type_number kind.I8 = 4
type_number kind.I16 = 5
type_number kind.I32 = 6
type_number kind.I64 = 7
type_number kind.Bool = 8
type_number (kind.Str n) = 9 + 2 * n
type_number (kind.Named i) = 10 + 2 * i

-- of the kinds of what elements declare
abbrev pub type_numbers : List TypeDef → List (Option Kind) → List (Option ℕ)
type_numbers types kinds = map (option_map (λ (k : Kind). type_number (target types k))) kinds
