use Rattle.fp_sound_parts.proofs.Instanced.{all_sound}
use Rattle.fp_sound_parts.proofs.deployment_laws.instances_are_sound.Goals as goal

pub returns : goal.returns
returns c m ws are unbroken lie = all_sound m ws are unbroken lie
