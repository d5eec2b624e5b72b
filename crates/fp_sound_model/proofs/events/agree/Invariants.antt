use Rattle.std.proofs.Common.{◌≡◌, drop}
use Rattle.std.specs.Slice.Iter.{iter_rest}
use Rattle.fp_tables.specs.Formats.{agree}
use Rattle.fp_sound_model.proofs.events.agree.Given as goal

abbrev pub invariant-loop-piece : goal.invariant-loop-piece
invariant-loop-piece l = agree l.types l.pieces l.formals ≡ agree l.types (drop l.piece-index l.pieces) (iter_rest l.rest)
