use Rattle.std.proofs.Common.{refl}
use Rattle.std.specs.Fmt.{digits}
use Rattle.fp_main.proofs.laws.worked_lines.Goals as goal

pub returns-clause-port : goal.returns-clause-port
returns-clause-port c = refl

pub returns-clause-refusal : goal.returns-clause-refusal
unfolding digits
returns-clause-refusal c = refl

pub returns-clause-topology : goal.returns-clause-topology
returns-clause-topology c = refl

pub returns-clause-usage : goal.returns-clause-usage
unfolding digits
returns-clause-usage c = refl
