use Rattle.fp_places.proofs.Standing.{standing}
use Rattle.fp_places.proofs.site_laws.stand_at_tokens.Goals as goal

pub returns : goal.returns
returns c tokens ms spelled = standing tokens ms spelled
