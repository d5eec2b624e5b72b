use Rattle.fp_sound_parts.proofs.Lain.{numbered_there}
use Rattle.fp_sound_parts.proofs.deployment_laws.wired_models_are_numbered.Goals as goal

pub returns : goal.returns
returns c before after is = numbered_there before after is
