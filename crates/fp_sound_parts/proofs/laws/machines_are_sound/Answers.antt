use Rattle.fp_sound_parts.proofs.Machines.{machines_sound}
use Rattle.fp_sound_parts.proofs.laws.machines_are_sound.Goals as goal

pub returns : goal.returns
returns c source values resolutions ws types machines valued definitions parts ordered unbroken built =
    machines_sound source types valued.given definitions parts ordered unbroken c.unbroken_outlines_are_sound.ensures c.unbroken_bodies_are_sound.ensures machines built
