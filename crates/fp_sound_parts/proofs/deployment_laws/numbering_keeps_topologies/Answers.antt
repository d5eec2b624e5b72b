use Rattle.fp_sound_parts.proofs.Lain.{each_numbered, still_topologies}
use Rattle.fp_sound_parts.proofs.deployment_laws.numbering_keeps_topologies.Goals as goal

pub returns-clause-topologies : goal.returns-clause-topologies
returns-clause-topologies c m before after ds cs is ts numbered are = still_topologies m before after numbered ds cs is ts are

pub returns-clause-numbers : goal.returns-clause-numbers
returns-clause-numbers c m before after numbered t o at = each_numbered m before after numbered t o at
