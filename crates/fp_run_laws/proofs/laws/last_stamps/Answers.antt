use Rattle.fp_events.proofs.OfRun.{kept_last, told_last}
use Rattle.fp_events.specs.Step.{core}
use Rattle.fp_events.proofs.StepLaws.{core_laws}
use Rattle.fp_run_laws.proofs.laws.last_stamps.Goals as goal

pub returns-clause-history : goal.returns-clause-history
returns-clause-history c = λ tables program i es s h. kept_last (core tables program) (core_laws tables program) i es s h

pub returns-clause-trace : goal.returns-clause-trace
returns-clause-trace c = λ tables program a es x h. told_last (core tables program) (core_laws tables program) a es x h
