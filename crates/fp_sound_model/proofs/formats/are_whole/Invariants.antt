use Rattle.std.proofs.Common.{◌≡◌, false, drop}
use Rattle.fp_base.specs.Formats.{are_whole}
use Rattle.fp_sound_model.proofs.formats.are_whole.Given as goal

abbrev pub invariant-loop-piece : goal.invariant-loop-piece
invariant-loop-piece l = are_whole false l.pieces ≡ are_whole l.after_plain (drop l.piece-index l.pieces)
