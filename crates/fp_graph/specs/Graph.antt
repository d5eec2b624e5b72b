-- A graph as a list of targets, with a stretch of it for each vertex.
use Rattle.std.specs.Prelude.{◌≡◌, ℕ, ◌<◌, ◌≤◌, List, length, slice_get, Some}
use Rattle.fp_graph.specs.declared.stretch.Stretch.{Stretch}

-- the one has the other among its targets
pub record Edge (stretches : List Stretch) (targets : List ℕ) (from to : ℕ) : Type 0 where
  pub stretch : Stretch
  pub here : slice_get stretches from ≡ Some stretch
  pub at : ℕ
  pub since : stretch.first ≤ at
  pub before : at < stretch.end
  pub target : slice_get targets at ≡ Some to
  pub within : to < length stretches
