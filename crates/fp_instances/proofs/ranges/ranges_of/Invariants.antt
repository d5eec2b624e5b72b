use Rattle.std.proofs.Common.{◌≡◌, take}
use Rattle.fp_instances.specs.Ranges.{ranges}
use Rattle.fp_instances.proofs.ranges.ranges_of.Given as goal

abbrev pub invariant-loop-instance : goal.invariant-loop-instance
invariant-loop-instance l = l.ranges ≡ ranges (take l.instance-index l.facts)
