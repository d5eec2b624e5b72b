use Rattle.fp_types.proofs.Passed.{GivenFirst}
use Rattle.fp_types.proofs.giving.given.Given as goal

abbrev pub invariant-loop-at : goal.invariant-loop-at
invariant-loop-at l = GivenFirst l.types l.at l.row
