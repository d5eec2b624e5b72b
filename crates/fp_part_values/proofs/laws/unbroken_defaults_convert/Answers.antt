use Rattle.fp_part_values.proofs.Converted.{default_unbroken}
use Rattle.fp_part_values.proofs.laws.unbroken_defaults_convert.Goals as goal

pub returns : goal.returns
returns c source ws types scope p e v k unbroken given at is val kinded size =
    c.converts_or_breaks.ensures ws types e.at.first v k given size (default_unbroken source ws scope p e v k unbroken at is val kinded)
