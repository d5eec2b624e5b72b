-- A graph as a row of targets for each vertex, and the same as one list with a stretch of it for each vertex.
use Rattle.std.specs.Prelude.{◌≡◌, ℕ, ◌+◌, ◌<◌, List, [], ◌∷◌, length, flat_map, slice_get, Some}
use Rattle.fp_graph.specs.declared.stretch.Stretch.{Stretch}

-- a target is in the row of a vertex, and is itself a vertex that has a row
pub record IsListed (rows : List (List ℕ)) (from to : ℕ) : Type 0 where
  pub row : List ℕ
  pub here : slice_get rows from ≡ Some row
  pub k : ℕ
  pub target : slice_get row k ≡ Some to
  pub within : to < length rows

-- one row behind another
abbrev pub stretches_from : ℕ → List (List ℕ) → List Stretch
stretches_from first [] = []
stretches_from first (r ∷ rs) = record { first = first; end = first + length r } ∷ stretches_from (first + length r) rs

abbrev pub in_one : List (List ℕ) → List ℕ
in_one rows = flat_map (λ (r : List ℕ). r) rows
