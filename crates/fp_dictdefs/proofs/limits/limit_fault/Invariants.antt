use Rattle.std.specs.BTreeSet.{contains}
use Rattle.fp_dictdefs.specs.Tested.{long_cmp}
use Rattle.fp_dictdefs.proofs.Sides.{LimitsFirst}
use Rattle.fp_dictdefs.proofs.limits.limit_fault.Given as goal

abbrev pub invariant-loop-limit : goal.invariant-loop-limit
invariant-loop-limit l = LimitsFirst l.fits l.limits l.limit-index l.first (contains long_cmp l.seen)
