use Rattle.fp_type_sizes.proofs.OneSize.{one_size}
use Rattle.fp_type_sizes.proofs.laws.one_size.Goals as goal

pub returns-clause-leaves : goal.returns-clause-leaves
returns-clause-leaves t ws k a b x y m n = (one_size m n).leaves

pub returns-clause-levels : goal.returns-clause-levels
returns-clause-levels t ws k a b x y m n = (one_size m n).levels
