use Rattle.fp_checks.specs.Staying.{IsOfSame}
use Rattle.fp_checks.proofs.kept.take_turns.Given as goal

abbrev pub invariant-loop-actor : goal.invariant-loop-actor
invariant-loop-actor l = IsOfSame l.fn.run l.run
