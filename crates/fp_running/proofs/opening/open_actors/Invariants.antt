use Rattle.fp_running.proofs.Opened.{AreFirst, Fresh}
use Rattle.fp_running.proofs.opening.open_actors.Given as goal

abbrev pub invariant-loop-number : goal.invariant-loop-number
invariant-loop-number l = AreFirst (Fresh l.tables l.program) l.actors.items l.number
