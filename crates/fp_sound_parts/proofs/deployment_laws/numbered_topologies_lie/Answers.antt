use Rattle.fp_sound_parts.proofs.Lain.{all_lie}
use Rattle.fp_sound_parts.proofs.deployment_laws.numbered_topologies_lie.Goals as goal

pub returns : goal.returns
returns c m w before of lie have are wires numbered = all_lie m before m.topologies numbered w have lie of are wires c.topologies_lie.ensures c.wires_lie.ensures
