use Rattle.fp_base.specs.Least.{InFirst, IsLeast}
use Rattle.fp_instances.specs.Ranges.{OverlapsEarlier}
use Rattle.fp_instances.proofs.overlaps.overlap_faults.Given as goal

abbrev pub invariant-places : goal.invariant-places
invariant-places l = IsLeast (InFirst l.at (OverlapsEarlier l.ranges) l.ranges) l.first
