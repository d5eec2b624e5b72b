-- Types that are marked in a table, and the rounds that read what they use.
use Rattle.std.specs.Prelude.{ℕ, zero, suc, Bool, true, false, not, cond, List, [], ◌∷◌, ◌++◌, replicate, set, option_map, unwrap_or, slice_get}
use Rattle.fp_tables.specs.Lists.{some_and}
use Rattle.fp_tables.specs.Types.{form_at, kinds_in}
use Rattle.fp_tables.specs.declared.kind.Kind.{Kind}
use Rattle.fp_tables.specs.declared.kind.Kind.TheVariants as kind
use Rattle.fp_tables.specs.declared.kind.TypeDef.{TypeDef}
use Rattle.fp_dictionary.specs.Used.{is_described}
use Rattle.fp_dictionary.specs.declared.marking.Marked.{Marked}

-- a flag for each type, and the positions of those that are marked, as they came
pub record Marks : Type 0 where
  pub flags : List Bool
  pub order : List ℕ

abbrev pub marks_of : Marked → Marks
marks_of m = record { flags = m.flags.items; order = m.order }

abbrev pub no_marks : ℕ → Marks
no_marks n = record { flags = replicate n false; order = [] }

-- it stands in the table and isn't marked
abbrev pub is_new : List Bool → ℕ → Bool
is_new flags k = not (unwrap_or (slice_get flags k) true)

abbrev pub with_mark : Marks → Kind → Marks
with_mark s (kind.Named k) = record { flags = set s.flags k true; order = cond (is_new s.flags k) (s.order ++ k ∷ []) s.order }
with_mark s _ = s

abbrev pub with_marks : Marks → List Kind → Marks
with_marks s [] = s
with_marks s (k ∷ ks) = with_marks (with_mark s k) ks

-- the types that stand in the form of the one at a position
abbrev pub kinds_at : List TypeDef → ℕ → List Kind
kinds_at types k = unwrap_or (option_map kinds_in (form_at types k)) []

-- with those that the one that came at a round uses
abbrev pub round_read : List TypeDef → Marks → ℕ → Marks
round_read types s n = with_marks s (unwrap_or (option_map (kinds_at types) (slice_get s.order n)) [])

-- after so many rounds
abbrev pub rounds_read : List TypeDef → Marks → ℕ → Marks
rounds_read types s zero = s
rounds_read types s (suc n) = round_read types (rounds_read types s n) n

-- there is a type at the position, and it is described
abbrev pub describes : List TypeDef → ℕ → Bool
describes types k = some_and is_described (form_at types k)
