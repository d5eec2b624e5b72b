use Rattle.fp_base.specs.Least.{IsLeast, InFirst}
use Rattle.fp_numbering.specs.Broken.{IsOutOfRange}
use Rattle.fp_numbering.proofs.faults.range_faults.Given as goal

abbrev pub invariant-loop-tip : goal.invariant-loop-tip
invariant-loop-tip l = IsLeast (InFirst l.tip-index IsOutOfRange l.tips) l.first
