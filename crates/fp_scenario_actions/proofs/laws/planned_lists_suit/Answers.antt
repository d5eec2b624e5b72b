use Rattle.fp_scenario_actions.proofs.Suits.{acts_suit, returns_stand, as_long}
use Rattle.fp_scenario_actions.proofs.laws.planned_lists_suit.Goals as goal

pub returns-clause-suit : goal.returns-clause-suit
returns-clause-suit c = λ t i d place scope texts acts sound there whole plan. acts_suit t sound i d there place scope texts acts whole plan

pub returns-clause-ends : goal.returns-clause-ends
returns-clause-ends c = λ t i d place scope texts acts plan lacks. returns_stand t i d place scope texts acts plan lacks

pub returns-clause-length : goal.returns-clause-length
returns-clause-length c = λ t i d place scope texts acts plan. as_long t i d place scope texts acts plan
