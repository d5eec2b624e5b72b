use Rattle.fp_run_laws.proofs.Told.{told_returns}
use Rattle.fp_run_laws.proofs.typing_laws.returned_values.Goals as goal

pub returns : goal.returns
returns c = λ t program sound good a es x told before rest e is. told_returns t program sound good a es x told before rest e is
