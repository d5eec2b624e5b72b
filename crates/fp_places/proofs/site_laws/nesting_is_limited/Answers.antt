use Rattle.fp_places.proofs.Nesting.{keeping}
use Rattle.fp_places.proofs.site_laws.nesting_is_limited.Goals as goal

pub returns : goal.returns
returns c = keeping
