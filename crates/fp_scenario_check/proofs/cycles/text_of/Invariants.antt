use Rattle.fp_scenario_check.proofs.Counting.{Leaves}
use Rattle.fp_scenario_check.proofs.cycles.text_of.Given as goal

abbrev pub invariant-loop-at : goal.invariant-loop-at
invariant-loop-at l = Leaves l.counts l.fn.handler l.at l.left
