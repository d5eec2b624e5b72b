use Rattle.fp_types.proofs.Existing.{all_given}
use Rattle.fp_types.proofs.laws.unbroken_types_are_given.Goals as goal

pub returns : goal.returns
returns c ws given i o are types at = all_given ws are given types i o at
