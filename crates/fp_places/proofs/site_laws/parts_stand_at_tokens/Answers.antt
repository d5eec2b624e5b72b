use Rattle.fp_places.proofs.Standing.{parts_standing}
use Rattle.fp_places.proofs.site_laws.parts_stand_at_tokens.Goals as goal

pub returns : goal.returns
returns c = parts_standing
