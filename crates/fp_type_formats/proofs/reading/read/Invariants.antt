use Rattle.std.proofs.Common.{length}
use Rattle.fp_type_formats.specs.Sorted.{unfit_at}
use Rattle.fp_type_formats.proofs.Progress.{IsReadTo}
use Rattle.fp_type_formats.proofs.reading.read.Given as goal

abbrev pub decreases-loop-first : goal.decreases-loop-first
decreases-loop-first l = length l.rest

abbrev pub invariant-loop-first : goal.invariant-loop-first
invariant-loop-first l = IsReadTo (unfit_at l.unfit l.others) l.fn.text l.reading l.rest
