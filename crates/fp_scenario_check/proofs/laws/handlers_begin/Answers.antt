use Rattle.fp_scenario_check.proofs.Beginning.{spot_begins}
use Rattle.fp_scenario_check.proofs.Spelled.{one_spelling}
use Rattle.fp_scenario_check.proofs.laws.handlers_begin.Goals as goal

pub returns-clause-begin : goal.returns-clause-begin
returns-clause-begin c = λ t i d on place there means. spot_begins t i d there on place means

pub returns-clause-once : goal.returns-clause-once
returns-clause-once c = λ t d on other place h k. one_spelling t d on other place h k
