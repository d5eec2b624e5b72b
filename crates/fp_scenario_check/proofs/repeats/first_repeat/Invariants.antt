use Rattle.fp_scenario_check.proofs.Repeated.{AreSeen}
use Rattle.fp_scenario_check.proofs.repeats.first_repeat.Given as goal

abbrev pub invariant-loop-at : goal.invariant-loop-at
invariant-loop-at l = AreSeen l.keys l.at l.seen
