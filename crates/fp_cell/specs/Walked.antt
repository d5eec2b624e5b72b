-- How far a walk over flat nodes has come.
use Rattle.std.specs.Prelude.{ℕ, List, Option, option_map}
use Rattle.fp_tables.specs.declared.machine.Machine.{Machine}
use Rattle.fp_events.specs.Machine.{Walk, first_these}
use Rattle.fp_machine_flat.specs.declared.node.FlatNode.{FlatNode}
use Rattle.fp_machine_flat.specs.Walking.{walks}
use Rattle.std.specs.Prelude.{Bool}

-- these actions, and then the walk over so many nodes
abbrev pub walks_on : Machine → (ℕ → List Bool) → List FlatNode → List ℕ → ℕ → ℕ → List ℕ → Option Walk
walks_on m answers nodes actions n at asked = option_map (first_these actions) (walks m answers nodes n at asked)
