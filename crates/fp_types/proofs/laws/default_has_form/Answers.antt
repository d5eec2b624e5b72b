use Rattle.fp_types.proofs.Passed.{default_of_size}
use Rattle.fp_type_sizes.proofs.Counted.{formed}
use Rattle.fp_types.proofs.laws.default_has_form.Goals as goal

pub returns-clause-form : goal.returns-clause-form
returns-clause-form c ws i v d = let s = default_of_size ws i v d in formed ws i s.0 s.1 s.2

pub returns-clause-size : goal.returns-clause-size
returns-clause-size c ws i v d = default_of_size ws i v d
