use Rattle.fp_events.specs.SystemRun.{opening}
use Rattle.fp_events.proofs.SystemEnded.{Run-one, Told-one, Kept-one, ended_stuck, stuck_dues}
use Rattle.fp_events.proofs.Spent.{spent_stamp}
use Rattle.fp_events.proofs.system.outcome.Goals as goal

pub returns : goal.returns
returns g c = record {
  one = λ y es u v h k. Run-one y es (opening y) u v h k;
  ended = λ y es v h. ended_stuck y es v h;
  spent = λ y laws es v h positive a i ask s e given above. spent_stamp y laws es v h positive a i ask s e given above;
  stuck = λ y taking v. stuck_dues y taking v;
  trace = λ y a es t u h k. Told-one y a es t u h k;
  history = λ y one i es t u h k. Kept-one y one i es t u h k;
}
