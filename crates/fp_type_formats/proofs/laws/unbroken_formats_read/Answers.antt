use Rattle.fp_type_formats.proofs.Unbroken.{are_readable}
use Rattle.fp_type_formats.proofs.laws.unbroken_formats_read.Goals as goal

pub returns : goal.returns
returns c = are_readable
