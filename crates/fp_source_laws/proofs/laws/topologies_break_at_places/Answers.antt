use Rattle.fp_source_laws.proofs.Standing.{source_topologies_placed}
use Rattle.fp_source_laws.proofs.laws.topologies_break_at_places.Goals as goal

pub returns : goal.returns
returns c = source_topologies_placed
