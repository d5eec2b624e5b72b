use Rattle.std.proofs.Common.{◌≡◌, replicate, None}
use Rattle.fp_cell.proofs.opening.nothings.Given as goal

abbrev pub invariant-loop-at : goal.invariant-loop-at
invariant-loop-at g l = l.nothings.items ≡ replicate l._at None
