use Rattle.fp_consts.proofs.Counted.{IsLaidFirst}
use Rattle.fp_consts.proofs.laying.lay.Given as goal

abbrev pub invariant-loop-index : goal.invariant-loop-index
invariant-loop-index l = IsLaidFirst l.limit l.items l.index l.laid
