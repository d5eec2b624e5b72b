use Rattle.fp_topologies.proofs.OneList.{one_list}
use Rattle.fp_topologies.proofs.import_laws.one_closures.Goals as goal

pub returns : goal.returns
returns c = one_list
