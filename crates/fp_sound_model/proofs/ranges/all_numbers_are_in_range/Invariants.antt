use Rattle.std.proofs.Common.{◌≡◌, drop}
use Rattle.std.specs.List.{list_all}
use Rattle.fp_tables.specs.Instances.{numbers_are_in_range}
use Rattle.fp_sound_model.proofs.ranges.all_numbers_are_in_range.Given as goal

abbrev pub invariant-loop-instance : goal.invariant-loop-instance
invariant-loop-instance l = list_all (numbers_are_in_range l.model) l.instances ≡ list_all (numbers_are_in_range l.model) (drop l.instance-index l.instances)
