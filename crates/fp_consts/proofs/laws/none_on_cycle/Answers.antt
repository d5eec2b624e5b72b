use Rattle.fp_consts.proofs.Grounded.{none_on_cycle}
use Rattle.fp_consts.proofs.laws.none_on_cycle.Goals as goal

pub returns : goal.returns
returns c source number v cycle has = none_on_cycle source number v cycle has
