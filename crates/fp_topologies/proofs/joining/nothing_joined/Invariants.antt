use Rattle.std.proofs.Common.{◌≡◌, length}
use Rattle.fp_topologies.proofs.joining.nothing_joined.Given as goal

abbrev pub invariant-loop : goal.invariant-loop
invariant-loop l = length l.joined.items ≡ l.counter
