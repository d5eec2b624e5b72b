use Rattle.fp_scenario_actions.proofs.SuitsCalls.{calls_suit, calls_as_long}
use Rattle.fp_scenario_actions.proofs.laws.planned_calls_suit.Goals as goal

pub returns-clause-suit : goal.returns-clause-suit
returns-clause-suit c = λ t scope texts acts sound plan. calls_suit t sound scope texts acts plan

pub returns-clause-length : goal.returns-clause-length
returns-clause-length c = λ t scope texts acts plan. calls_as_long t scope texts acts plan
