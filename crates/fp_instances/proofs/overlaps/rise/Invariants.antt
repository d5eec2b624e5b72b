use Rattle.std.proofs.Common.{◌≡◌, drop}
use Rattle.fp_instances.specs.Ascending.{rise, rise_behind}
use Rattle.fp_instances.proofs.overlaps.rise.Given as goal

abbrev pub invariant-loop-range : goal.invariant-loop-range
invariant-loop-range l = rise l.ranges ≡ rise_behind l.before (drop l.range-index l.ranges)
