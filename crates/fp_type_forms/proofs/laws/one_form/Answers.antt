use Rattle.fp_type_forms.proofs.OneForm.{one_form_of}
use Rattle.fp_type_forms.proofs.laws.one_form.Goals as goal

pub returns : goal.returns
returns c source scope d f g h k = one_form_of source scope d f g h k
