use Rattle.fp_source_parts.proofs.Least.{instances_least}
use Rattle.fp_source_parts.proofs.laws.instances_are_least.Goals as goal

pub returns : goal.returns
returns c source written first are least = instances_least source written first are least
