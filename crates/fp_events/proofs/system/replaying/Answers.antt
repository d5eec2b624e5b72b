use Rattle.fp_events.proofs.Replay.{run_replayed, replayed_run}
use Rattle.fp_events.proofs.system.replaying.Goals as goal

pub returns : goal.returns
returns g c = λ y taking es. ((λ h. run_replayed y es h), (λ h. replayed_run y taking es h))
