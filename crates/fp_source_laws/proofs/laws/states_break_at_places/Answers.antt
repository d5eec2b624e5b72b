use Rattle.fp_source_laws.proofs.Standing.{states_placed}
use Rattle.fp_source_laws.proofs.laws.states_break_at_places.Goals as goal

pub returns : goal.returns
returns c = states_placed
