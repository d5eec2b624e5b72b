use Rattle.fp_events.specs.SystemRun.{opening}
use Rattle.fp_events.proofs.Scheduled.{schedule_run}
use Rattle.fp_events.proofs.system.scheduling.Goals as goal

pub returns : goal.returns
returns g c = λ y taking order es v h. schedule_run y taking order (opening y) v es h
