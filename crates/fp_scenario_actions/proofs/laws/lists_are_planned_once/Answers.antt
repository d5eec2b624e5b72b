use Rattle.fp_scenario_actions.proofs.Once.{one_list, one_list_of_calls}
use Rattle.fp_scenario_actions.proofs.laws.lists_are_planned_once.Goals as goal

pub returns-clause-handlers : goal.returns-clause-handlers
returns-clause-handlers c = λ t i d place scope texts acts other h g. one_list t i d place scope texts acts other h g

pub returns-clause-callers : goal.returns-clause-callers
returns-clause-callers c = λ t scope texts acts other h g. one_list_of_calls t scope texts acts other h g
