use Rattle.std.proofs.Common.{◌≡◌, ◌∷◌, take}
use Rattle.fp_gather.proofs.gathering.including.within.Given as goal

abbrev pub invariant-loop-outer : goal.invariant-loop-outer
invariant-loop-outer l = l.row ≡ l.name ∷ take l.outer-index l.round
