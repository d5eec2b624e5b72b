use Rattle.fp_events.proofs.OfRun.{run_stamped}
use Rattle.fp_events.proofs.Agreement.{recorded}
use Rattle.fp_events.proofs.system.projections.Goals as goal

pub returns : goal.returns
returns g c = record { mergeable = λ y laws es v h. recorded y laws es v h; stamped = λ y laws es h. run_stamped y laws es h.0 h.1 }
