use Rattle.fp_part_values.proofs.Standing.{names_stand}
use Rattle.fp_part_values.proofs.form_laws.unbroken_part_names_stand.Goals as goal

pub returns : goal.returns
returns c source marks rs resolved valued unbroken k d at = names_stand source unbroken k d at marks rs resolved valued
