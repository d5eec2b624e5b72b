use Rattle.fp_running.specs.Progress.{Added}
use Rattle.fp_running.proofs.running.Running.work.Given as goal

abbrev pub invariant-loop : goal.invariant-loop
invariant-loop l = Added l.added l.fn.self l.self
