use Rattle.fp_source_parts.proofs.Least.{parts_least}
use Rattle.fp_source_parts.proofs.laws.parts_are_least.Goals as goal

pub returns : goal.returns
returns c source types written first are given least = parts_least c.one_default.ensures source types written first are given least
