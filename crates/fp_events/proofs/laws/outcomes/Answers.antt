use Rattle.fp_events.proofs.SystemEnded.{Run-one}
use Rattle.fp_events.specs.Step.{core}
use Rattle.fp_events.specs.Run.{opening}
use Rattle.fp_events.proofs.laws.outcomes.Goals as goal

pub returns : goal.returns
returns c = λ tables program es v w h k. Run-one (core tables program) es (opening tables program) v w h k
