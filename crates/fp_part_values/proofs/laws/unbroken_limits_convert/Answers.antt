use Rattle.fp_part_values.proofs.Converted.{limit_converts, limit_number}
use Rattle.fp_part_values.proofs.laws.unbroken_limits_convert.Goals as goal

pub returns-clause-numbers : goal.returns-clause-numbers
returns-clause-numbers c source ws scope channel l v unbroken at there val = limit_number source ws scope channel l v unbroken at there val

pub returns-clause-converts : goal.returns-clause-converts
returns-clause-converts c source ws scope channel l v n k low high unbroken at there val is kinded t = limit_converts source ws scope channel l v unbroken at there val n k low high is kinded t
