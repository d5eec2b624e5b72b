use Rattle.std.proofs.Common.{◌≡◌, None, drop}
use Rattle.fp_sound_model.specs.IdRanges.{rise_above}
use Rattle.fp_sound_model.proofs.ranges.rise.Given as goal

abbrev pub invariant-loop-range : goal.invariant-loop-range
invariant-loop-range l = rise_above None l.ranges ≡ rise_above l.last (drop l.range-index l.ranges)
