use Rattle.fp_places.proofs.Writing.{topology_written}
use Rattle.fp_places.proofs.site_laws.topology_names_are_written.Goals as goal

pub returns : goal.returns
returns c = topology_written
