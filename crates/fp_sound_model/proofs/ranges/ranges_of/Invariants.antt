use Rattle.std.proofs.Common.{◌≡◌, map, take}
use Rattle.std.specs.List.{filter_map}
use Rattle.fp_tables.specs.Instances.{range_of}
use Rattle.fp_sound_model.specs.IdRanges.{ends_of}
use Rattle.fp_sound_model.proofs.ranges.ranges_of.Given as goal

abbrev pub invariant-loop-instance : goal.invariant-loop-instance
invariant-loop-instance l = map ends_of l.ranges.items ≡ filter_map (range_of l.model) (take l.instance-index l.instances)
