use Rattle.fp_topologies.proofs.Differing.{all_differ}
use Rattle.fp_topologies.proofs.laws.instances_differ.Goals as goal

pub returns : goal.returns
returns c ds cs is ts rs have = all_differ ds cs is ts rs have
