use Rattle.fp_type_forms.proofs.OneForm.{one_list}
use Rattle.fp_type_forms.proofs.laws.one_written.Goals as goal

pub returns : goal.returns
returns c source vs ws h k = one_list source vs ws h k
