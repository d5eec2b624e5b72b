use Rattle.std.proofs.Common.{◌≡◌, length}
use Rattle.fp_topologies.proofs.filling.begun.Given as goal

abbrev pub invariant-loop : goal.invariant-loop
invariant-loop l = length l.closures.items ≡ l.counter
