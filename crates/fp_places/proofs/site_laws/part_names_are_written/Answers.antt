use Rattle.fp_places.proofs.Writing.{parts_written}
use Rattle.fp_places.proofs.site_laws.part_names_are_written.Goals as goal

pub returns : goal.returns
returns c = parts_written
