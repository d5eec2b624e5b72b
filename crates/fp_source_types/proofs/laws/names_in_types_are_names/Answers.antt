use Rattle.fp_source_types.proofs.Naming.{names_within}
use Rattle.fp_source_types.proofs.laws.names_in_types_are_names.Goals as goal

pub returns : goal.returns
returns c source types named fields of = names_within source types of named fields
