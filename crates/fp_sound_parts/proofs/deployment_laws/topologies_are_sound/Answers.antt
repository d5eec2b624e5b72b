use Rattle.fp_sound_parts.proofs.DeploymentWhole.{all_sound}
use Rattle.fp_sound_parts.proofs.deployment_laws.topologies_are_sound.Goals as goal

pub returns : goal.returns
returns c m ts ports are unbroken t o at numbered =
    all_sound c.unbroken_imports_are_closed.ensures c.instances_differ.ensures c.links_join_members.ensures c.with_numbers_sound.ensures m ts ports are unbroken t o at numbered
