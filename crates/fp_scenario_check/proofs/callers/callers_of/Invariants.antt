use Rattle.std.proofs.Common.{take}
use Rattle.fp_scenario_check.specs.Planned.{Pairwise, PlansCaller}
use Rattle.fp_scenario_check.proofs.callers.callers_of.Given as goal

abbrev pub invariant-loop-at : goal.invariant-loop-at
invariant-loop-at l = Pairwise (PlansCaller l.tables) (take l.at l.texts) l.row
