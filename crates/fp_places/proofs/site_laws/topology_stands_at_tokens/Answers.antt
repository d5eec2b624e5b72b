use Rattle.fp_places.proofs.Standing.{topology_standing}
use Rattle.fp_places.proofs.site_laws.topology_stands_at_tokens.Goals as goal

pub returns : goal.returns
returns c = topology_standing
