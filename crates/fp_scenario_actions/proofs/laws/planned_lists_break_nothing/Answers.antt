use Rattle.fp_scenario_actions.proofs.Keeping.{acts_break_nothing}
use Rattle.fp_scenario_actions.proofs.laws.planned_lists_break_nothing.Goals as goal

pub returns : goal.returns
returns c = λ t i d place scope texts acts rule n plan h. acts_break_nothing t i d place scope texts acts rule n plan h
