use Rattle.std.proofs.Common.{sym, subst, ◌∙◌, ap, length, map}
use Rattle.fp_rounds.specs.declared.worker.Worker.{Worker}
use Rattle.fp_rounds.specs.Going.{AllGoOn}
use Rattle.fp_rounds.proofs.Going.{all_stay, all_given, all_back, ended_back}
use Rattle.fp_rounds.proofs.running.run.Goals as goal

pub returns-in-Err-clause-all : goal.returns-in-Err-clause-all
returns-in-Err-clause-all g c =
    subst (λ z. AllGoOn c.args.plant.now c.args.hands z) (sym c.in-Err.ensures.err) (all_stay c.args.plant.now c.args.hands c.requires)

pub work_all-rested-requires-after_bounds : goal.work_all-rested-requires-after_bounds
work_all-rested-requires-after_bounds g c κs within =
    all_given (λ (v : Worker). v.hand) c.args.plant.now c.as_mut_slice.result.now c.args.hands (ap (map (λ (v : Worker). v.hand)) c.as_mut_slice.ensures.value ∙ c.in-Ok.ensures.ok.0) c.requires

pub returns-in-Ok-rested-clause-all : goal.returns-in-Ok-rested-clause-all
returns-in-Ok-rested-clause-all g c =
    all_back (λ (v : Worker). v.hand) c.args.plant.now c.in-Ok.crew.workers.items c.as_mut_slice.result.now c.work_all-rested.new.workers c.in-Ok.crew.workers.len c.args.hands c.hands_of-hands.result
    c.in-Ok.ensures.ok.0 c.as_mut_slice.ensures.value c.in-Ok.crew.workers.ok.0 c.work_all-rested.ensures.goes_on c.hands_of-hands.ensures c.requires

pub returns-in-Err-rested-clause-all : goal.returns-in-Err-rested-clause-all
returns-in-Err-rested-clause-all g c =
    all_back (λ (v : Worker). v.hand) c.args.plant.now c.in-Ok.crew.workers.items c.as_mut_slice.result.now c.work_all-rested.new.workers c.in-Ok.crew.workers.len c.args.hands c.hands_of-hands.result
    c.in-Ok.ensures.ok.0 c.as_mut_slice.ensures.value c.in-Ok.crew.workers.ok.0 c.work_all-rested.ensures.goes_on c.hands_of-hands.ensures c.requires

pub returns-in-Ok-rested-clause-ended : goal.returns-in-Ok-rested-clause-ended
returns-in-Ok-rested-clause-ended g c =
    ended_back (λ (v : Worker). v.hand) c.in-Ok.crew.workers.items c.work_all-rested.new.workers c.in-Ok.crew.workers.len c.hands_of-hands.result
    c.in-Ok.crew.workers.ok.0 (c.work_all-rested.ensures.goes_on.0 ∙ ap length c.as_mut_slice.ensures.value) c.in-Ok-rested.ensures.rests c.hands_of-hands.ensures
