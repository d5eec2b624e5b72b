-- An action among the vertices that are on a cycle.
use Rattle.std.specs.Prelude.{List, Option, Some, None, ℕ}
use Rattle.fp_graph.specs.Visits.{Among}
use Rattle.fp_reach.specs.declared.vertex.Vertex.{Vertex}
use Rattle.fp_reach.specs.declared.vertex.Vertex.TheVariants.{Action}
use Rattle.fp_reach.specs.declared.cycles.Ring.{Ring}
use Rattle.fp_reach.specs.Reaching.{Reaches}
use Rattle.fp_reach.specs.Rings.{Step}

-- one of which this holds, and none only where it holds of no action
abbrev pub IsOneOf : (Vertex → Type 0) → Option Ring → Type 0
IsOneOf P None = (n k : ℕ) → P (Action n k) → ⊥
IsOneOf P (Some ring) = P (Action ring.handler ring.action)

abbrev pub IsFirst : List Vertex → Option Ring → Type 0
IsFirst vertices = IsOneOf (Among vertices)

abbrev pub IsRing : List (Vertex × Vertex) → Option Ring → Type 0
IsRing edges = IsOneOf (λ x. Reaches (Step edges) x x)
