use Rattle.fp_events.proofs.Fitting.{run_fits}
use Rattle.fp_events.proofs.laws.fitting_entries.Goals as goal

pub returns : goal.returns
returns c = λ tables program es h before rest e is. run_fits tables program es h.0 h.1 before e rest is
