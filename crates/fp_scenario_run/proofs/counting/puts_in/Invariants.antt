use Rattle.std.proofs.Common.{◌≡◌, take}
use Rattle.fp_scenario_run.specs.Told.{count_of, is_put}
use Rattle.fp_scenario_run.proofs.counting.puts_in.Given as goal

abbrev pub invariant-loop-entry : goal.invariant-loop-entry
invariant-loop-entry l = l.puts ≡ count_of is_put (take l.entry-index l.entries)
