use Rattle.fp_events.proofs.Waiting.{tells_or_waits}
use Rattle.fp_events.proofs.laws.causes.Goals as goal

pub returns : goal.returns
returns c = λ tables program i inside ask there. tells_or_waits tables program i inside ask there
