use Rattle.fp_instances.proofs.Apart.{apart_unbroken}
use Rattle.fp_instances.proofs.overlaps.range_faults.Goals as goal

pub returns-then-branch : goal.returns-then-branch
returns-then-branch c = apart_unbroken c.args.ranges.now (c.in_ok-are_apart.ensures c.if-branch.true)
