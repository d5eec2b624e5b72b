use Rattle.fp_types.proofs.OneResult.{one_result}
use Rattle.fp_types.proofs.laws.one_result.Goals as goal

pub returns : goal.returns
returns c ws v k a b one other = one_result one other
