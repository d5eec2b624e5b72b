use Rattle.std.proofs.Common.{◌≡◌, ◌++◌, drop}
use Rattle.fp_base.specs.Rendered.{rendered}
use Rattle.fp_formats.proofs.rendering.render.Given as goal

abbrev pub invariant-loop-piece : goal.invariant-loop-piece
invariant-loop-piece l = rendered l.fn.format.parts l.fn.values ≡ l.text ++ rendered (drop l.piece-index l.fn.format.parts) l.rest
