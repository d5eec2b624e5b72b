use Rattle.fp_scenario_actions.proofs.ValueOnce.{one_value, one_row}
use Rattle.fp_scenario_actions.proofs.value_laws.values_mean_one.Goals as goal

pub returns-clause-value : goal.returns-clause-value
returns-clause-value c = λ types w d one other h g. one_value types h other g

pub returns-clause-arguments : goal.returns-clause-arguments
returns-clause-arguments c = λ types scope kinds ds row other h g. one_row types scope kinds ds row other h g
