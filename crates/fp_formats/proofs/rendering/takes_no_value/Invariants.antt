use Rattle.std.proofs.Common.{◌≡◌, drop, []}
use Rattle.fp_formats.specs.Fits.{fits}
use Rattle.fp_formats.proofs.rendering.takes_no_value.Given as goal

abbrev pub invariant-loop-piece : goal.invariant-loop-piece
invariant-loop-piece l = fits l.fn.format.parts [] ≡ fits (drop l.piece-index l.fn.format.parts) []
