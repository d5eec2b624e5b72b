use Rattle.fp_type_sizes.proofs.NoCycle.{apart}
use Rattle.fp_types.proofs.Opening.{result_of_size}
use Rattle.fp_types.proofs.laws.nothing_becomes_too_large.Goals as goal

pub returns : goal.returns
returns c ws v k w large h = apart (result_of_size h) large
