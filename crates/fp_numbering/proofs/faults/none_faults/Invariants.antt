use Rattle.fp_base.specs.Least.{IsLeast, InFirst}
use Rattle.fp_numbering.specs.Faults.{FindsNonePlainly}
use Rattle.fp_numbering.proofs.faults.none_faults.Given as goal

abbrev pub invariant-loop-at : goal.invariant-loop-at
invariant-loop-at l = IsLeast (InFirst l.at (FindsNonePlainly l.tips l.numbers) l.tips) l.first
