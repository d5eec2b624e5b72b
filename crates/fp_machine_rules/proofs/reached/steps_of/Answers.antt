use Rattle.fp_base.proofs.Options.{if_ok_then}
use Rattle.fp_machine_rules.proofs.Steps.{steps_choice}
use Rattle.fp_machine_rules.proofs.reached.steps_of.Goals as goal

pub returns-in-Choice : goal.returns-in-Choice
returns-in-Choice c = if_ok_then c.both.result _ _ (λ row e. steps_choice c.args.items.now c.args.vertex c.in-Choice.name _ _ row c.in-Choice.ensures e) c.both.ensures
