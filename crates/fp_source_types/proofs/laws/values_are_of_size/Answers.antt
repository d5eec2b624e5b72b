use Rattle.fp_source_types.proofs.Levels.{values_sized}
use Rattle.fp_source_types.proofs.laws.values_are_of_size.Goals as goal

pub returns : goal.returns
returns c = values_sized
