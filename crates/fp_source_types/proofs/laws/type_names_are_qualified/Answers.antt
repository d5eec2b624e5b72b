use Rattle.fp_source_types.proofs.Naming.{names_qualified}
use Rattle.fp_source_types.proofs.laws.type_names_are_qualified.Goals as goal

pub returns : goal.returns
returns c source types named of = names_qualified source types of named
