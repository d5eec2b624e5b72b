use Rattle.std.proofs.Common.{◌≡◌, ℕ, take}
use Rattle.std.specs.Ordering.{nat_cmp}
use Rattle.std.specs.BTreeSet.{contains}
use Rattle.fp_topologies.specs.Taken.{is_private_among}
use Rattle.fp_topologies.proofs.taking.private_among.Given as goal

abbrev pub invariant-loop-member : goal.invariant-loop-member
invariant-loop-member l = (i : ℕ) → contains nat_cmp l.hidden i ≡ is_private_among i (take l.member-index l.members)
