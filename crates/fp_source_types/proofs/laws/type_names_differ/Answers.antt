use Rattle.fp_source_types.proofs.Naming.{names_differ}
use Rattle.fp_source_types.proofs.laws.type_names_differ.Goals as goal

pub returns : goal.returns
returns c source types once named of = names_differ source types of once named
