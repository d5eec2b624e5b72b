use Rattle.fp_base.specs.Least.{InFirst, IsLeast}
use Rattle.fp_uses.specs.Flagged.{Flagged}
use Rattle.fp_uses.proofs.faults.least_of.Given as goal

abbrev pub invariant-loop-number : goal.invariant-loop-number
invariant-loop-number l = IsLeast (InFirst l.number (Flagged l.cyclic l.deep l.users) l.definitions) l.first
