use Rattle.std.proofs.Common.{◌≡◌, take}
use Rattle.fp_tables.specs.Arguments.{kinds_of}
use Rattle.fp_scenario_actions.proofs.arguments.kinds_of.Given as goal

abbrev pub invariant-loop-formal : goal.invariant-loop-formal
invariant-loop-formal l = l.row ≡ kinds_of (take l.formal-index l.formals)
