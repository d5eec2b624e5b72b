-- The topologies of a model, by their names.
use Rattle.std.specs.Prelude.{ℕ, ◌≡◌, List, Some, slice_get}
use Rattle.fp_tables.specs.declared.model.Model.{Model}
use Rattle.fp_tables.specs.declared.topology.Topology.{Topology}

-- the topology at a position has this qualified name
abbrev pub IsTopology : Model → List ℕ → ℕ → Type 0
IsTopology model name at = (t : Topology) × (slice_get model.topologies at ≡ Some t) × (t.name ≡ name)

abbrev pub HasTopology : Model → List ℕ → Type 0
HasTopology model name = (at : ℕ) × IsTopology model name at

abbrev pub LacksTopology : Model → List ℕ → Type 0
LacksTopology model name = HasTopology model name → ⊥
