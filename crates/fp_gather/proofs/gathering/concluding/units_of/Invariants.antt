use Rattle.std.proofs.Common.{◌≡◌, ◌++◌, map}
use Rattle.std.specs.Vec.Iter.{into_iter_items}
use Rattle.fp_gather.specs.gathering.Gathered.{file_of}
use Rattle.fp_gather.proofs.gathering.concluding.units_of.Given as goal

abbrev pub invariant-loop-members : goal.invariant-loop-members
invariant-loop-members l = l.units ++ map file_of (into_iter_items l.members-iterator) ≡ map file_of l.fn.files
