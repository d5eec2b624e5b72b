use Rattle.fp_types.proofs.Total.{converts_or_breaks}
use Rattle.fp_types.proofs.laws.converts_or_breaks.Goals as goal

pub returns : goal.returns
returns c ws types place value kind are size none = converts_or_breaks ws types are place value kind size none
