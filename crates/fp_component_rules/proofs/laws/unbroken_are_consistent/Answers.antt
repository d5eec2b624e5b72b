use Rattle.fp_component_rules.proofs.Unbroken.{all_consistent}
use Rattle.fp_component_rules.proofs.laws.unbroken_are_consistent.Goals as goal

pub returns : goal.returns
returns c fs cs good = all_consistent fs cs good
