use Rattle.fp_gate.proofs.Words.{counts_modulo}
use Rattle.fp_gate.proofs.law.counts_modulo.Goals as goal

pub returns : goal.returns
returns g c = counts_modulo g.T.Booked.name g.T.Booked.history
