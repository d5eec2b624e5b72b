use Rattle.std.proofs.Common.{◌≡◌, suc, max, Some, arith, [], ◌∷◌, refl, ap}
use Rattle.fp_events.proofs.Scheduled.{schedule_run}
use Rattle.fp_events.proofs.OfRun.{run_stamped}
use Rattle.fp_events.proofs.Replay.{run_replayed}
use Rattle.fp_tables.specs.declared.component.Full.TheVariants as full
use Rattle.fp_events.specs.Due.{due}
use Rattle.fp_events.specs.Follows.{follows}
use Rattle.fp_events.specs.Tells.{tells}
use Rattle.fp_events.specs.Leaves.{leaves}
use Rattle.fp_events.specs.Answers.{answers}
use Rattle.fp_events.specs.Fits.{fits, what_fits}
use Rattle.fp_events.specs.Step.{instance_part, actor_part, core}
use Rattle.fp_events.specs.Run.{opening}
use Rattle.fp_events.specs.FullQueue.{full_queue, two_calls, arrival_with, first_put, hook_left, second}
use Rattle.fp_events.specs.declared.event.Entry.{Entry}
use Rattle.fp_events.specs.declared.event.What.TheVariants as what
use Rattle.fp_events.proofs.StepLaws.{core_laws, core_taking}
use Rattle.fp_events.proofs.worked.full_queue_log.Goals as goal

pub returns-clause-drop : goal.returns-clause-drop
unfolding due follows tells leaves answers fits what_fits instance_part actor_part
returns-clause-drop c =
    let tables = full_queue full.Dropped in
    (_, schedule_run (core tables two_calls) (core_taking tables two_calls) (0 ∷ 0 ∷ []) (opening tables two_calls) _ (first_put ∷ second what.Dropped ∷ []) refl, refl)

pub returns-clause-hook : goal.returns-clause-hook
unfolding due follows tells leaves answers fits what_fits instance_part actor_part
returns-clause-hook c =
    let tables = full_queue full.Hook in
    (_, schedule_run (core tables two_calls) (core_taking tables two_calls) (0 ∷ 0 ∷ 0 ∷ []) (opening tables two_calls) _ (first_put ∷ second what.Hooked ∷ hook_left ∷ []) refl, refl)

pub returns-clause-assert : goal.returns-clause-assert
unfolding due follows tells leaves answers fits what_fits instance_part actor_part
returns-clause-assert c =
    let tables = full_queue full.Assert in
    (_, schedule_run (core tables two_calls) (core_taking tables two_calls) (0 ∷ 0 ∷ []) (opening tables two_calls) _ (first_put ∷ second what.Asserted ∷ []) refl, refl)

pub returns-clause-block : goal.returns-clause-block
unfolding due follows tells leaves answers fits what_fits instance_part actor_part
returns-clause-block c =
    let tables = full_queue full.Block in
    (_, schedule_run (core tables two_calls) (core_taking tables two_calls) (0 ∷ []) (opening tables two_calls) _ (first_put ∷ []) refl, refl)

pub returns-clause-exchanged : goal.returns-clause-exchanged
returns-clause-exchanged c = λ h.
    let tables = full_queue full.Dropped in
    let stamp : 2 ≡ suc (max 0 0) = run_stamped (core tables two_calls) (core_laws tables two_calls) (second what.Dropped ∷ first_put ∷ []) h.0 h.1 (second what.Dropped) [] (first_put ∷ []) refl in
    absurd (omega arith)

not_dropped : Some (first_put ∷ second what.Asserted ∷ []) ≡ Some (first_put ∷ second what.Dropped ∷ []) → ⊥
not_dropped h =
    let same : second what.Asserted ≡ second what.Dropped = cc in
    let whats : what.Asserted (arrival_with 2) ≡ what.Dropped (arrival_with 2) = ap (λ (e : Entry). e.what) same in
    absurd (cc)

pub returns-clause-other_policy : goal.returns-clause-other_policy
unfolding due follows tells leaves answers fits what_fits instance_part actor_part
returns-clause-other_policy c = λ h.
    not_dropped (run_replayed (core (full_queue full.Assert) two_calls) (first_put ∷ second what.Dropped ∷ []) h)
