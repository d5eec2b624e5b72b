use Rattle.std.proofs.Common.{◌≡◌, length}
use Rattle.fp_consts.proofs.tabling.no_values.Given as goal

abbrev pub invariant-loop-at : goal.invariant-loop-at
invariant-loop-at l = length l.table.items ≡ l._at
