use Rattle.fp_topologies.proofs.Single.{all_alike}
use Rattle.fp_topologies.proofs.laws.one_topologies.Goals as goal

pub returns : goal.returns
returns c ds cs is ts rs qs have = all_alike c.one_closures.ensures ds cs is ts rs qs have
