use Rattle.fp_scenario_check.proofs.Once.{one_program}
use Rattle.fp_scenario_check.proofs.laws.scenarios_stand_for_one_program.Goals as goal

pub returns : goal.returns
returns c = λ t scenario program other h g. one_program t scenario program other h g
