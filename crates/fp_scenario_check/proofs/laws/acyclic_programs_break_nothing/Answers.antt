use Rattle.fp_scenario_check.proofs.Unbroken.{breaks_nothing}
use Rattle.fp_scenario_check.proofs.laws.acyclic_programs_break_nothing.Goals as goal

pub returns : goal.returns
returns c = λ t scenario program plan whole none no_lock.
    breaks_nothing t scenario program (λ other planned. c.scenarios_stand_for_one_program.ensures t scenario program other plan planned) none no_lock whole
