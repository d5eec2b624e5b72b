use Rattle.fp_events.specs.Step.{core}
use Rattle.fp_events.proofs.StepLaws.{core_laws, core_taking}
use Rattle.fp_run_laws.proofs.Raising.{raised_stamp, raised_step}
use Rattle.fp_run_laws.proofs.laws.steps_rise.Goals as goal

pub returns-clause-stamp : goal.returns-clause-stamp
returns-clause-stamp c = λ tables program w v e step a n is. raised_stamp (core tables program) (core_laws tables program) w v e step a n is

pub returns-clause-step : goal.returns-clause-step
returns-clause-step c =
    λ tables program w v u e f step later. raised_step (core tables program) (core_laws tables program) w v e step (core_taking tables program) f u later
