use Rattle.std.proofs.Common.{map, take}
use Rattle.serde_json.specs.View.{view}
use Rattle.fp_tables.specs.Bound.{scope_of}
use Rattle.fp_scenario_actions.specs.Arguments.{AreArguments}
use Rattle.fp_scenario_actions.proofs.arguments.arguments_of.Given as goal

abbrev pub invariant-loop-at : goal.invariant-loop-at
invariant-loop-at l = AreArguments l.types (scope_of l.bound) (take l.at l.kinds) (map view (take l.at l.values)) l.row
