use Rattle.std.proofs.Common.{◌+◌}
use Rattle.fp_uses.specs.Given.{AreNumbersFrom}
use Rattle.fp_uses.proofs.rows.numbers_behind.Given as goal

abbrev pub invariant-loop-at : goal.invariant-loop-at
invariant-loop-at l = AreNumbersFrom (l.number + 1) l.at l.row
