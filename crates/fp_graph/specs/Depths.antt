-- How long the chains are that begin with each vertex.
use Rattle.std.specs.Prelude.{◌≡◌, ℕ, ◌<◌, ◌≤◌, List, length, slice_get, slice_index, Option, Some, None}
use Rattle.fp_graph.specs.declared.stretch.Stretch.{Stretch}
use Rattle.fp_graph.specs.Graph.{Edge}
use Rattle.fp_graph.specs.Chains.{Chain, IsOnCycle}

-- what a table has for the vertex that an edge leads to, and 0 where it leads nowhere
abbrev pub depth_in : List ℕ → Option ℕ → ℕ
depth_in depths None = 0
depth_in depths (Some w) = slice_index depths w

-- a place among the targets of a vertex
abbrev pub IsInStretch : Stretch → ℕ → Type 0
IsInStretch stretch at = (stretch.first ≤ at) × (at < stretch.end)

-- the most that a table has for what a vertex leads to
pub record IsDeepest (targets depths : List ℕ) (stretch : Stretch) (depth : ℕ) : Type 0 where
  pub bound : (at : ℕ) → IsInStretch stretch at → depth_in depths (slice_get targets at) ≤ depth
  pub reached : 0 < depth → (at : ℕ) × IsInStretch stretch at × (depth_in depths (slice_get targets at) ≡ depth)

module _ (stretches : List Stretch) (targets : List ℕ) where
  -- how many vertices the longest chain has that begins with one: counted to this many, and 0 for one on a cycle
  pub record IsDepth (most v depth : ℕ) : Type 0 where
    pub some : (n : ℕ) → n < depth → Chain (length stretches) (Edge stretches targets) v n
    pub all : (n : ℕ) → n < most → Chain (length stretches) (Edge stretches targets) v n → n < depth

  -- a table has the depths of the first vertices of an order
  pub record AreDepths (most : ℕ) (order : List ℕ) (count : ℕ) (depths : List ℕ) : Type 0 where
    pub each : length depths ≡ length stretches
    pub done : (k v : ℕ) → k < count → slice_get order k ≡ Some v → IsDepth most v (slice_index depths v)
    pub none : (v : ℕ) → IsOnCycle (Edge stretches targets) v → slice_index depths v ≡ 0
