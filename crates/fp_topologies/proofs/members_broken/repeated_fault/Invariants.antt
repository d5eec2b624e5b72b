use Rattle.std.specs.Ordering.{nat_cmp}
use Rattle.std.specs.BTreeSet.{contains}
use Rattle.fp_topologies.proofs.MembersNoted.{RepeatedFirst}
use Rattle.fp_topologies.proofs.members_broken.repeated_fault.Given as goal

abbrev pub invariant-loop-used : goal.invariant-loop-used
invariant-loop-used l = RepeatedFirst l.own l.used-index l.first (contains nat_cmp l.seen)
