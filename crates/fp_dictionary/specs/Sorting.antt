-- Positions of types in the order of their names.
use Rattle.std.specs.Prelude.{ℕ, List}
use Rattle.std.specs.Cmp.Lexicographic.{slice_cmp}
use Rattle.std.specs.List.Sorted.{IsPermutation, IsSorted}
use Rattle.std.specs.Ordering.{nat_cmp}
use Rattle.std.specs.declared.cmp.Ordering.{Ordering}
use Rattle.fp_tables.specs.declared.kind.TypeDef.{TypeDef}
use Rattle.fp_dictionary.specs.Used.{type_name}

abbrev pub type_cmp : List TypeDef → ℕ → ℕ → Ordering
type_cmp types j k = slice_cmp nat_cmp (type_name types j) (type_name types k)

-- the same positions in order
pub record AreByName (types : List TypeDef) (before after : List ℕ) : Type 0 where
  pub permutation : IsPermutation before after
  pub sorted : IsSorted (type_cmp types) after
