use Rattle.fp_meaning.proofs.OneValue.{one_value, one_values}
use Rattle.fp_meaning.proofs.laws.one_value.Goals as goal

pub returns-clause-one : goal.returns-clause-one
returns-clause-one c source scope s v w one other = one_value one other

pub returns-clause-each : goal.returns-clause-each
returns-clause-each c source scope es vs ws one other = one_values one other
