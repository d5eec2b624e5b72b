use Rattle.fp_sound_types.proofs.Chained.{AreMarks}
use Rattle.fp_sound_types.proofs.chains.chains_are_short.Given as goal

abbrev pub invariant-loop-round : goal.invariant-loop-round
invariant-loop-round l = AreMarks l.types l.round l.marks.items
