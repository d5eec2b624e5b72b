use Rattle.fp_type_sizes.proofs.NoCycle.{apart}
use Rattle.fp_type_sizes.proofs.laws.of_size_or_too_large.Goals as goal

pub returns : goal.returns
returns c ws k m l = apart m l
