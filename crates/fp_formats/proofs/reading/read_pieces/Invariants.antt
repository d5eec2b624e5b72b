use Rattle.std.proofs.Common.{length}
use Rattle.fp_formats.proofs.Steps.{Progress}
use Rattle.fp_formats.proofs.reading.read_pieces.Given as goal

abbrev pub decreases-loop-first : goal.decreases-loop-first
decreases-loop-first l = length l.rest

abbrev pub invariant-loop-first : goal.invariant-loop-first
invariant-loop-first l = Progress l.fn.text l.parts l.plain l.rest
