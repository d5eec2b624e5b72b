use Rattle.fp_run_laws.proofs.Causes.{no_step}
use Rattle.fp_run_laws.proofs.laws.waiting.Goals as goal

pub returns : goal.returns
returns c = λ tables program i a seen s ask why h. no_step tables program i s a seen ask why h
