use Rattle.fp_events.proofs.StepLaws.{core_laws, core_taking, core_one_change}
use Rattle.fp_events.proofs.laws.steps.Goals as goal

pub returns : goal.returns
returns c = record { laws = core_laws; taking = core_taking; one_change = core_one_change }
