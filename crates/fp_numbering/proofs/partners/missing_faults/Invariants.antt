use Rattle.fp_base.specs.Least.{IsLeast, InFirst}
use Rattle.fp_numbering.specs.Ends.{matches_of}
use Rattle.fp_numbering.specs.Broken.{IsMissing}
use Rattle.fp_numbering.proofs.partners.missing_faults.Given as goal

abbrev pub invariant-loop-tip : goal.invariant-loop-tip
invariant-loop-tip l = IsLeast (InFirst l.tip-index (IsMissing (matches_of l.model) l.tips) l.tips) l.first
