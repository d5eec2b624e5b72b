use Rattle.fp_part_values.proofs.Standing.{numbers_stand}
use Rattle.fp_part_values.proofs.form_laws.unbroken_part_numbers_stand.Goals as goal

pub returns : goal.returns
returns c source unbroken k d at = numbers_stand source unbroken k d at
