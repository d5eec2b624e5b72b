use Rattle.fp_events.proofs.OfRun.{at_run}
use Rattle.fp_events.specs.Run.{at, opening}
use Rattle.fp_events.specs.Step.{core}
use Rattle.fp_events.proofs.StepLaws.{core_laws}
use Rattle.fp_run_laws.proofs.Untaken.{pending_untaken}
use Rattle.fp_run_laws.proofs.laws.untaken_is_pending.Goals as goal

pub returns-clause-history : goal.returns-clause-history
returns-clause-history c = λ tables program i es s h. pending_untaken tables program i es s h

pub returns-clause-run : goal.returns-clause-run
returns-clause-run c =
    λ tables program es w h i. pending_untaken tables program i (at i es) (w.instances i) (at_run (core tables program) (core_laws tables program) es (opening tables program) w h i)
