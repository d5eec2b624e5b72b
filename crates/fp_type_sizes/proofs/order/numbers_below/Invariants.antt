use Rattle.fp_type_sizes.specs.Earlier.{AreNumbers}
use Rattle.fp_type_sizes.proofs.order.numbers_below.Given as goal

abbrev pub invariant-loop-at : goal.invariant-loop-at
invariant-loop-at l = AreNumbers l.at l.numbers.items
