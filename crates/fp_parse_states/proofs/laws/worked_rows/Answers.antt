use Rattle.std.proofs.Common.{refl}
use Rattle.fp_parse_states.proofs.laws.worked_rows.Goals as goal

pub returns-clause-elements : goal.returns-clause-elements
returns-clause-elements c = λ a b c d e. refl

pub returns-clause-lines : goal.returns-clause-lines
returns-clause-lines c = λ k l m a b. refl
