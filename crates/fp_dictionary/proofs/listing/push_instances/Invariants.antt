use Rattle.std.proofs.Common.{◌≡◌, ◌++◌, take}
use Rattle.std.specs.Prelude.{flat_map}
use Rattle.fp_dictionary.specs.Used.{kinds_of_instance}
use Rattle.fp_dictionary.proofs.listing.push_instances.Given as goal

abbrev pub invariant-loop-instance : goal.invariant-loop-instance
invariant-loop-instance l = l.kinds ≡ l.initial.kinds ++ flat_map (kinds_of_instance l.model) (take l.instance-index l.instances)
