use Rattle.fp_run_laws.proofs.Anew.{run_anew, end_anew}
use Rattle.fp_run_laws.proofs.laws.same_world.Goals as goal

pub returns-clause-world : goal.returns-clause-world
returns-clause-world c = λ tables program es fs w h at_are by_are. run_anew tables program es fs at_are by_are w h

pub returns-clause-end : goal.returns-clause-end
returns-clause-end c = λ tables program es fs f h at_are by_are. end_anew tables program es fs at_are by_are f h
