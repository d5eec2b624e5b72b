use Rattle.fp_types.proofs.HasKind.{converted_has_kind}
use Rattle.fp_types.proofs.laws.converted_has_kind.Goals as goal

pub returns : goal.returns
returns c ws types value kind made well are h = converted_has_kind ws types well are value kind made h
