use Rattle.std.proofs.Common.{◌≡◌, ◌++◌, map}
use Rattle.std.specs.Vec.Iter.{into_iter_items}
use Rattle.fp_consts.specs.Answered.{or_opaque}
use Rattle.fp_consts.proofs.evaluating.filled.Given as goal

-- the values so far and those of what is left are those of all
abbrev pub invariant-loop-mark : goal.invariant-loop-mark
invariant-loop-mark l = l.row ++ map or_opaque (into_iter_items l.mark-iterator) ≡ map or_opaque l.fn.marks
