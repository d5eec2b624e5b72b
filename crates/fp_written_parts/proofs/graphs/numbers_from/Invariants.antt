use Rattle.std.proofs.Common.{◌≡◌}
use Rattle.fp_base.specs.Numbers.{numbers_from}
use Rattle.fp_written_parts.proofs.graphs.numbers_from.Given as goal

abbrev pub invariant-loop-at : goal.invariant-loop-at
invariant-loop-at l = l.numbers ≡ numbers_from l.first l.at
