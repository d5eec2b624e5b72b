use Rattle.fp_dictionary.proofs.ExactValues.{value_exact, default_exact, constant_exact}
use Rattle.fp_dictionary.proofs.laws.numbers_are_exact.Goals as goal

pub returns-clause-values : goal.returns-clause-values
returns-clause-values c = λ types k v h. value_exact types k v h

pub returns-clause-defaults : goal.returns-clause-defaults
returns-clause-defaults c = λ types d h. default_exact types d h

pub returns-clause-constants : goal.returns-clause-constants
returns-clause-constants c = λ types enum repr x h. constant_exact types enum repr x h
