use Rattle.fp_instances.proofs.Sized.{are_within}
use Rattle.fp_instances.proofs.laws.unbroken_are_within.Goals as goal

pub returns : goal.returns
returns c cs ws unbroken numbers = are_within cs ws unbroken numbers
