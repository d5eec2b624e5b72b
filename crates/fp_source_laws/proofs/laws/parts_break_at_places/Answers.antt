use Rattle.fp_source_laws.proofs.Standing.{parts_placed}
use Rattle.fp_source_laws.proofs.laws.parts_break_at_places.Goals as goal

pub returns : goal.returns
returns c = parts_placed
