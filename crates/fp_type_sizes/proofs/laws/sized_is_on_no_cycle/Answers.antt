use Rattle.std.proofs.Common.{refl}
use Rattle.fp_type_sizes.proofs.NoCycle.{no_cycle}
use Rattle.fp_type_sizes.proofs.laws.sized_is_on_no_cycle.Goals as goal

pub returns : goal.returns
returns c ws i a b m l = no_cycle m i refl l
