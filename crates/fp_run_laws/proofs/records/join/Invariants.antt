use Rattle.std.proofs.Common.{◌≡◌, ◌++◌}
use Rattle.std.specs.Vec.Iter.{into_iter_items}
use Rattle.fp_events.specs.SystemRun.{joined}
use Rattle.fp_run_laws.proofs.records.join.Given as goal

-- what is joined so far and what is left are all
abbrev pub invariant-loop-history : goal.invariant-loop-history
invariant-loop-history l = l.entries ++ joined (into_iter_items l.history-iterator) ≡ joined l.fn.histories
