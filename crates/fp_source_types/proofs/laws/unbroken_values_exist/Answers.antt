use Rattle.fp_source_types.proofs.Existing.{values_exist}
use Rattle.fp_source_types.proofs.laws.unbroken_values_exist.Goals as goal

pub returns : goal.returns
returns c = values_exist
