use Rattle.std.proofs.Common.{◌≡◌, ◌++◌, take}
use Rattle.std.specs.Prelude.{flat_map}
use Rattle.fp_base.specs.Formats.{spelled}
use Rattle.fp_sound_model.proofs.formats.write_pieces.Given as goal

abbrev pub invariant-loop-piece : goal.invariant-loop-piece
invariant-loop-piece l = l.out ≡ l.initial.out ++ flat_map spelled (take l.piece-index l.pieces)
