use Rattle.fp_source_laws.proofs.Standing.{values_placed}
use Rattle.fp_source_laws.proofs.laws.values_break_at_places.Goals as goal

pub returns : goal.returns
returns c = values_placed
