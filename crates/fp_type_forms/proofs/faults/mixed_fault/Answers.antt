use Rattle.fp_type_forms.proofs.Breaking.{least_mixed}
use Rattle.fp_type_forms.proofs.faults.mixed_fault.Goals as goal

pub returns : goal.returns
returns c = least_mixed c.args.kind.now c.has_both-mixed.result c.refusal_if.result c.has_both-mixed.ensures c.refusal_if.ensures
