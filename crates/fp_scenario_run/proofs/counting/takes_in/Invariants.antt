use Rattle.std.proofs.Common.{◌≡◌, take}
use Rattle.fp_scenario_run.specs.Told.{count_of, is_take}
use Rattle.fp_scenario_run.proofs.counting.takes_in.Given as goal

abbrev pub invariant-loop-entry : goal.invariant-loop-entry
invariant-loop-entry l = l.takes ≡ count_of is_take (take l.entry-index l.entries)
