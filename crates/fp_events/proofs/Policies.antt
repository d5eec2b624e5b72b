-- What a trace has of full queues.
use Rattle.std.proofs.Common.{◌≡◌, ℕ, true, Option, Some, List, ◌∷◌, ◌++◌, refl, sym, subst}
use Rattle.fp_events.specs.SystemRun.{ActorStep, InTurn}
use Rattle.fp_events.proofs.Turns.{InTurn-split}
use Rattle.fp_tables.specs.Lookup.{Described}
use Rattle.fp_tables.specs.declared.component.Full.TheVariants as full
use Rattle.fp_tables.specs.declared.component.Way.TheVariants.{Later}
use Rattle.fp_tables.specs.declared.program.Program.{Program}
use Rattle.fp_events.specs.Actor.{opened_actor}
use Rattle.fp_events.specs.Answers.{suits, answers}
use Rattle.fp_events.specs.Manners.{Manner, by, manner}
use Rattle.fp_events.specs.QueueOrder.{policy_of, IsByPolicy}
use Rattle.fp_events.specs.Run.{IsTold}
use Rattle.fp_events.specs.Step.{core}
use Rattle.fp_events.specs.declared.event.Arrival.{Arrival}
use Rattle.fp_events.specs.declared.event.Ask.{Ask}
use Rattle.fp_events.specs.declared.event.Entry.{Entry}
use Rattle.fp_events.specs.declared.event.What.{What}
use Rattle.fp_events.specs.declared.event.What.TheVariants as what
use Rattle.fp_events.proofs.StepLaws.{answered_arrival, taken}

drops : (m : Option Manner) (r : Arrival) → suits m (what.Dropped r) ≡ true → policy_of m ≡ Some full.Dropped
drops (Some (by (Later priority full.Dropped))) r h = refl
drops _ r h = absurd (cc)

hooks : (m : Option Manner) (r : Arrival) → suits m (what.Hooked r) ≡ true → policy_of m ≡ Some full.Hook
hooks (Some (by (Later priority full.Hook))) r h = refl
hooks _ r h = absurd (cc)

asserts : (m : Option Manner) (r : Arrival) → suits m (what.Asserted r) ≡ true → policy_of m ≡ Some full.Assert
asserts (Some (by (Later priority full.Assert))) r h = refl
asserts _ r h = absurd (cc)

module _ (t : Described) (program : Program) where
  answer_is_by : (i : ℕ) (w : What) (q : Ask) → answers t i w q ≡ true → IsByPolicy t i w
  answer_is_by i (what.Dropped r) q h = drops (manner t i r.point) r (answered_arrival t program i (what.Dropped r) q r refl h).1
  answer_is_by i (what.Hooked r) q h = hooks (manner t i r.point) r (answered_arrival t program i (what.Hooked r) q r refl h).1
  answer_is_by i (what.Asserted r) q h = asserts (manner t i r.point) r (answered_arrival t program i (what.Asserted r) q r refl h).1
  answer_is_by i _ q h = tt

  pub told_by_policy : (a : ℕ) (es : List Entry) → IsTold t program a es → (before rest : List Entry) (e : Entry) → es ≡ before ++ e ∷ rest → IsByPolicy t e.instance e.what
  told_by_policy a es told before rest e is =
      let cut = InTurn-split (ActorStep (core t program) a) before (e ∷ rest) (record { thread = opened_actor program a; last = 0 }) told.0
      (subst (λ (l : List Entry). InTurn (ActorStep (core t program) a) (record { thread = opened_actor program a; last = 0 }) l told.0) is told.1) in
      let k = taken t program a cut.0 cut.2.0 e cut.2.1.part in
      subst (λ (i : ℕ). IsByPolicy t i e.what) (sym k.instance) (answer_is_by k.asked.0 e.what k.asked.1 k.answer)
