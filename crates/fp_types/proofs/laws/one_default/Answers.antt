use Rattle.fp_types.proofs.OneResult.{one_default}
use Rattle.fp_types.proofs.laws.one_default.Goals as goal

pub returns : goal.returns
returns c ws k a b one other = one_default one other
