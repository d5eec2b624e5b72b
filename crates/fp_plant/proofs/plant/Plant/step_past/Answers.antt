use Rattle.fp_base.proofs.Options.{if_ok_then}
use Rattle.fp_plant.proofs.Stepping.{answers_before}
use Rattle.fp_plant.proofs.plant.Plant.step_past.Goals as goal

pub returns-clause-answered : goal.returns-clause-answered
returns-clause-answered g c =
    if_ok_then c.step_roomy.result _ _ (λ r a. answers_before c.args.hand.now c.reserve.new.self c.reserve.ensures.actor c.reserve.ensures.passes r c.step_roomy.new.hand a) c.step_roomy.ensures.answered
