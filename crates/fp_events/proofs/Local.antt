-- Laws of each entry of a run, from its instance's history or its actor's trace.
use Rattle.std.proofs.Common.{◌≡◌, ℕ, List, [], ◌∷◌, ◌++◌, ap, subst, ◌∙◌}
use Rattle.fp_events.specs.System.{System, Laws}
use Rattle.fp_events.specs.SystemRun.{InTurn, World, at, by, opening, InstanceStep, ActorStep, Run}
use Rattle.fp_events.proofs.Turns.{InTurn-split, InTurn-induction, projection-split}
use Rattle.fp_events.proofs.OfRun.{at_run, by_run}

-- an entry at a place of a list of steps: it is a step from a state that has what the steps before it keep
pub InTurn-at : {X E : Type 0} (R : X → E → X → Type 0) (first : X) (P : List E → X → Type 0) → P [] first
    → ((es : List E) (s t : X) (e : E) → InTurn R first es s → P es s → R s e t → P (es ++ e ∷ []) t)
    → (before : List E) (e : E) (rest : List E) (t : X) → InTurn R first (before ++ e ∷ rest) t
    → (s : X) × (u : X) × P before s × R s e u
InTurn-at R first P none more before e rest t h =
    let cut = InTurn-split R before (e ∷ rest) first t h in
    (cut.0, cut.2.0, InTurn-induction R first P none more before cut.0 cut.1, cut.2.1)

module _ {S A Q E : Type 0} (y : System S A Q E) (laws : Laws y) where
  -- what the instance parts keep of a history and the instance's state gives a law of the entries at the instance
  pub instance_law : (P : ℕ → List E → S → Type 0) (Good : List E → E → Type 0)
      → ((i : ℕ) → P i [] (y.first_instance i))
      → ((i : ℕ) (es : List E) (s t : S) (e : E) → P i es s → InstanceStep y i s e t → P i (es ++ e ∷ []) t)
      → ((i : ℕ) (es : List E) (s t : S) (e : E) → P i es s → InstanceStep y i s e t → Good es e)
      → (es : List E) (v : World S A) → Run y (opening y) es v → (before : List E) (e : E) (rest : List E) → es ≡ before ++ e ∷ rest
      → Good (at y (y.instance e) before) e
  instance_law P Good none more good es v h before e rest is =
      let history = subst (λ l. InTurn (InstanceStep y (y.instance e)) (y.first_instance (y.instance e)) l (v.instances (y.instance e)))
      (ap (at y (y.instance e)) is ∙ projection-split y.instance before e rest)
      (at_run y laws es (opening y) v h (y.instance e)) in
      let place = InTurn-at (InstanceStep y (y.instance e)) (y.first_instance (y.instance e)) (P (y.instance e)) (none (y.instance e))
      (λ es s t f made holds step. more (y.instance e) es s t f holds step)
      (at y (y.instance e) before) e (at y (y.instance e) rest) (v.instances (y.instance e)) history in
      good (y.instance e) (at y (y.instance e) before) place.0 place.1 e place.2 place.3

  -- the same of a trace and the actor's state
  pub actor_law : (P : ℕ → List E → A → Type 0) (Good : List E → E → Type 0)
      → ((a : ℕ) → P a [] (y.first_actor a))
      → ((a : ℕ) (es : List E) (x z : A) (e : E) → P a es x → ActorStep y a x e z → P a (es ++ e ∷ []) z)
      → ((a : ℕ) (es : List E) (x z : A) (e : E) → P a es x → ActorStep y a x e z → Good es e)
      → (es : List E) (v : World S A) → Run y (opening y) es v → (before : List E) (e : E) (rest : List E) → es ≡ before ++ e ∷ rest
      → Good (by y (y.actor e) before) e
  actor_law P Good none more good es v h before e rest is =
      let trace = subst (λ l. InTurn (ActorStep y (y.actor e)) (y.first_actor (y.actor e)) l (v.actors (y.actor e)))
      (ap (by y (y.actor e)) is ∙ projection-split y.actor before e rest)
      (by_run y laws es (opening y) v h (y.actor e)) in
      let place = InTurn-at (ActorStep y (y.actor e)) (y.first_actor (y.actor e)) (P (y.actor e)) (none (y.actor e))
      (λ es x z f made holds step. more (y.actor e) es x z f holds step)
      (by y (y.actor e) before) e (by y (y.actor e) rest) (v.actors (y.actor e)) trace in
      good (y.actor e) (by y (y.actor e) before) place.0 place.1 e place.2 place.3
