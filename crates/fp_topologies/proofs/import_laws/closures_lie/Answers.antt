use Rattle.fp_topologies.proofs.OneList.{all_lie}
use Rattle.fp_topologies.proofs.import_laws.closures_lie.Goals as goal

pub returns : goal.returns
returns c = all_lie
