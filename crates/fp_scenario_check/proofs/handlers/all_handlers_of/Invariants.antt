use Rattle.fp_scenario_check.proofs.AtEach.{HandlesAll}
use Rattle.fp_scenario_check.proofs.handlers.all_handlers_of.Given as goal

abbrev pub invariant-loop-at : goal.invariant-loop-at
invariant-loop-at l = HandlesAll l.tables l.owned l.texts l.at l.handlers l.counts
