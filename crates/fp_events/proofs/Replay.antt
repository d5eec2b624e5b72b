-- A run is what its actors do in its order: so a list is a run exactly where computing gives it.
use Rattle.std.proofs.Common.{◌≡◌, ◌≤◌, true, nat_le, Some, option_map, List, [], ◌∷◌, map, refl, sym, ap, subst, arith}
use Rattle.std.proofs.lemmas.Bool.Decides.{nat_tests}
use Rattle.fp_events.specs.System.{System, IsTaking}
use Rattle.fp_events.specs.SystemRun.{World, Step, Run, IsRun, opening}
use Rattle.fp_events.specs.Schedule.{turn, schedule, replayed}
use Rattle.fp_events.proofs.Scheduled.{schedule_run}
use Rattle.fp_base.proofs.Options.{mapped_some}

module _ {S A Q E : Type 0} (y : System S A Q E) where
  step_turn : (w v : World S A) (e : E) → Step y w e v → turn y w (y.actor e) ≡ Some (e, v)
  step_turn w v e step =
      let within : nat_le (y.stamp e) y.steps ≡ true = within_test step.within in
      rw (step.due, step.instance_part, within, step.actor_part, step.next) refl
    where
      within_test : y.stamp e ≤ y.steps → nat_le (y.stamp e) y.steps ≡ true
      within_test h = grind (arith, nat_tests)

  pub run_schedule : (es : List E) (w v : World S A) → Run y w es v → schedule y w (map y.actor es) ≡ Some (es, v)
  run_schedule [] w v run = ap (λ (z : World S A). Some ([], z)) (sym run)
  run_schedule (e ∷ es) w v run =
      rw (step_turn w run.0 e run.1, run_schedule es run.0 v run.2) refl

  pub run_replayed : (es : List E) → IsRun y es → replayed y es ≡ Some es
  run_replayed es h = ap (option_map (λ (r : List E × World S A). r.0)) (run_schedule es (opening y) h.0 h.1)

  pub replayed_run : IsTaking y → (es : List E) → replayed y es ≡ Some es → IsRun y es
  replayed_run taking es h =
      let made = mapped_some (λ (r : List E × World S A). r.0) (schedule y (opening y) (map y.actor es)) es h in
      let whole : List E × World S A = made.0 in
      (whole.1, subst (λ l. Run y (opening y) l whole.1) made.2 (schedule_run y taking (map y.actor es) (opening y) whole.1 whole.0 made.1))
