use Rattle.std.specs.Ordering.{nat_cmp}
use Rattle.std.specs.BTreeSet.{contains}
use Rattle.fp_topologies.proofs.MembersNoted.{AreNoted, At}
use Rattle.fp_topologies.proofs.noting.noted.Given as goal

abbrev pub invariant-loop-instance : goal.invariant-loop-instance
invariant-loop-instance l = AreNoted (At l.held) l.instance-index (contains nat_cmp l.set)
