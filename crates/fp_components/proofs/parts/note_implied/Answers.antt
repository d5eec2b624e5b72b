use Rattle.std.proofs.Common.{◌++◌, ◌∷◌, []}
use Rattle.fp_components.specs.Resolved.{sets}
use Rattle.fp_components.proofs.parts.note_implied.Goals as goal

pub returns : goal.returns
returns c listed before first second h = c.note_save.ensures listed (before ++ sets c.args.at c.args.param.now ∷ []) second (c.in_ok-note_set.ensures listed before first h)
