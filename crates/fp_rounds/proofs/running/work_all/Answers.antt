use Rattle.fp_rounds.specs.declared.worker.Worker.{Worker}
use denote.Param.Send.{sendable}
use Rattle.fp_rounds.proofs.Going.{went_then, still_given}
use Rattle.fp_rounds.proofs.Crossing.{worker_send, plant_sync}
use Rattle.fp_rounds.proofs.running.work_all.Goals as goal

pub returns-in_err-last-clause-goes_on : goal.returns-in_err-last-clause-goes_on
returns-in_err-last-clause-goes_on g c =
    went_then (λ (v : Worker). v.hand) c.args.plant.now c.args.workers.now c.round.new.workers c.is_last.new.workers
    (went_then (λ (v : Worker). v.hand) c.args.plant.now c.args.workers.now c.loop.workers c.round.new.workers c.loop.invariant.3 c.round.ensures) c.is_last.ensures.goes_on

pub returns-then-last-clause-goes_on : goal.returns-then-last-clause-goes_on
returns-then-last-clause-goes_on g c =
    went_then (λ (v : Worker). v.hand) c.args.plant.now c.args.workers.now c.round.new.workers c.is_last.new.workers
    (went_then (λ (v : Worker). v.hand) c.args.plant.now c.args.workers.now c.loop.workers c.round.new.workers c.loop.invariant.3 c.round.ensures) c.is_last.ensures.goes_on

pub loop-preserved : goal.loop-preserved
loop-preserved g c = (
  tt,
  tt,
  still_given (λ (v : Worker). v.hand) c.args.plant.now c.round.new.workers c.is_last.new.workers c.is_last.ensures.goes_on,
  went_then (λ (v : Worker). v.hand) c.args.plant.now c.args.workers.now c.round.new.workers c.is_last.new.workers
      (went_then (λ (v : Worker). v.hand) c.args.plant.now c.args.workers.now c.loop.workers c.round.new.workers c.loop.invariant.3 c.round.ensures) c.is_last.ensures.goes_on,
)

pub round-requires-send-W : goal.round-requires-send-W
round-requires-send-W g c κs within = search (worker_send, sendable) depth 60 fits 20000

pub round-requires-sync-W-Plant : goal.round-requires-sync-W-Plant
round-requires-sync-W-Plant g c κs within = search (plant_sync, sendable) depth 60 fits 20000
