use Rattle.fp_source_laws.proofs.Members.{all_listed}
use Rattle.fp_source_laws.proofs.enum_laws.enumerations_have_constants.Goals as goal

pub returns : goal.returns
returns c = all_listed
