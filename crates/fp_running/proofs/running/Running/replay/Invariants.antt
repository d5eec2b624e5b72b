use Rattle.std.proofs.Common.{◌≡◌, take}
use Rattle.fp_running.specs.Progress.{and_then}
use Rattle.fp_running.proofs.running.Running.replay.Given as goal

abbrev pub invariant-loop-entry : goal.invariant-loop-entry
invariant-loop-entry l = l.self ≡ and_then l.fn.self (take l.entry-index l.entries)
