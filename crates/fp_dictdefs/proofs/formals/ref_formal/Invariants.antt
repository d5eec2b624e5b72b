use Rattle.fp_base.specs.Least.{InFirst, IsLeast}
use Rattle.fp_dictdefs.proofs.Folding.{RefAt}
use Rattle.fp_dictdefs.proofs.formals.ref_formal.Given as goal

abbrev pub invariant-loop-formal : goal.invariant-loop-formal
invariant-loop-formal l = IsLeast (InFirst l.formal-index RefAt l.formals) l.first
