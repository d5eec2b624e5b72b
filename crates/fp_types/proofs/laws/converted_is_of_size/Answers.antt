use Rattle.fp_types.proofs.Bounded.{converted_is_of_size}
use Rattle.fp_types.proofs.laws.converted_is_of_size.Goals as goal

pub returns : goal.returns
returns c ws types value kind made well are h = converted_is_of_size ws types well are value kind made h
