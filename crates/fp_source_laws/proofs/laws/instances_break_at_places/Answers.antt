use Rattle.fp_source_laws.proofs.Standing.{source_instances_placed}
use Rattle.fp_source_laws.proofs.laws.instances_break_at_places.Goals as goal

pub returns : goal.returns
returns c = source_instances_placed
