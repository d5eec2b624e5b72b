use Rattle.std.proofs.Common.{◌≡◌, replicate}
use Rattle.fp_types.proofs.parts.copies.Given as goal

abbrev pub invariant-loop-at : goal.invariant-loop-at
invariant-loop-at l = l.row ≡ replicate l._at l.value
