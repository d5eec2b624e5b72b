use Rattle.fp_places.proofs.Writing.{written}
use Rattle.fp_places.proofs.site_laws.names_are_written.Goals as goal

pub returns : goal.returns
returns c = written
