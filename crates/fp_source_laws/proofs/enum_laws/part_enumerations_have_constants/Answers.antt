use Rattle.fp_source_laws.proofs.Members.{parts_listed}
use Rattle.fp_source_laws.proofs.enum_laws.part_enumerations_have_constants.Goals as goal

pub returns : goal.returns
returns c = parts_listed
