use Rattle.std.proofs.Common.{take}
use Rattle.fp_scenario_check.specs.Planned.{Pairwise, PlansAnswers}
use Rattle.fp_scenario_check.proofs.guards.all_answers_of.Given as goal

abbrev pub invariant-loop-at : goal.invariant-loop-at
invariant-loop-at l = Pairwise (PlansAnswers l.tables) (take l.at l.texts) l.row
