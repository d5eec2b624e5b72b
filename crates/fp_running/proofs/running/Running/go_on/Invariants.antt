use Rattle.fp_running.specs.Progress.{Added}
use Rattle.fp_running.proofs.Left.{left}
use Rattle.fp_running.proofs.running.Running.go_on.Given as goal

abbrev pub invariant-loop-stepped : goal.invariant-loop-stepped
invariant-loop-stepped l = Added l.added l.fn.self l.self

abbrev pub decreases-loop-stepped : goal.decreases-loop-stepped
decreases-loop-stepped l = left l.self.tables l.self.program l.self.entries
