use Rattle.fp_sound_parts.proofs.Instanced.{all_lie}
use Rattle.fp_sound_parts.proofs.deployment_laws.instances_lie.Goals as goal

pub returns : goal.returns
returns c m ws are lie = all_lie m ws are lie
