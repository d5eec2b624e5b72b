use Rattle.fp_scenario_check.proofs.Sounding.{program_is_sound}
use Rattle.fp_scenario_check.proofs.laws.planned_programs_are_sound.Goals as goal

pub returns : goal.returns
returns c = λ t scenario program sound given plan whole. program_is_sound t scenario program sound (c.scenario_keeps_limits.ensures scenario given) plan whole
