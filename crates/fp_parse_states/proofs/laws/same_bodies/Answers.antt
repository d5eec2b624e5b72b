use Rattle.fp_parse_states.proofs.NestedFit.{into, out}
use Rattle.fp_parse_states.proofs.laws.same_bodies.Goals as goal

pub returns : goal.returns
returns c = λ depth w b. (out depth w b, into depth w b)
