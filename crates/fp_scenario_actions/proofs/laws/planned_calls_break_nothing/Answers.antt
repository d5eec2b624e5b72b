use Rattle.fp_scenario_actions.proofs.KeepingCalls.{calls_break_nothing}
use Rattle.fp_scenario_actions.proofs.laws.planned_calls_break_nothing.Goals as goal

pub returns : goal.returns
returns c = λ t scope texts acts rule n plan h. calls_break_nothing t scope texts acts rule n plan h
