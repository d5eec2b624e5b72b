-- A step has one outcome, so whether a run is ended is decided by the world that it leaves.
use Rattle.std.proofs.Common.{◌≡◌, ℕ, ◌<◌, ◌≤◌, arith, Option, Some, List, [], ◌∷◌, refl, sym, ap, ap₂, subst, ◌∙◌, ◌↔◌}
use Rattle.fp_events.specs.System.{System, IsOneChange, IsTaking}
use Rattle.fp_events.specs.SystemRun.{InTurn, World, after, opening, Step, InstanceStep, ActorStep, Run, IsStuck, NoDueStep, IsEnded, Kept, Told}
use Rattle.fp_events.proofs.Turns.{InTurn-split, InTurn-join}

-- where each step has one outcome, a list of steps has one
pub InTurn-one : {X E : Type 0} (R : X → E → X → Type 0) (one : (s t u : X) (e : E) → R s e t → R s e u → t ≡ u) → (es : List E) (s t u : X) → InTurn R s es t → InTurn R s es u → t ≡ u
InTurn-one R one [] s t u h k = h ∙ sym k
InTurn-one R one (e ∷ es) s t u h k = InTurn-one R one es h.0 t u h.2 (subst (λ x. InTurn R x es u) (one s k.0 h.0 e k.1 h.1) k.2)

module _ {S A Q E : Type 0} (y : System S A Q E) where
  pub Step-one : (w u v : World S A) (e : E) → Step y w e u → Step y w e v → u ≡ v
  Step-one w u v e h k =
      let dues : ◌≡◌ {A = Option (ℕ × Q)} (Some (y.instance e, h.ask)) (Some (y.instance e, k.ask)) = sym h.due ∙ k.due in
      let due_pairs : ◌≡◌ {A = ℕ × Q} (y.instance e, h.ask) (y.instance e, k.ask) = cc in
      let asks : h.ask ≡ k.ask = ap (λ (p : ℕ × Q). p.1) due_pairs in
      let given = subst (λ q. y.instance_part (y.instance e) (w.instances (y.instance e)) (y.actor e) q (y.actor_stamp (w.actors (y.actor e))) ≡ Some (e, h.s)) asks h.instance_part in
      let gives : ◌≡◌ {A = Option (E × S)} (Some (e, h.s)) (Some (e, k.s)) = sym given ∙ k.instance_part in
      let pairs : ◌≡◌ {A = E × S} (e, h.s) (e, k.s) = cc in
      let states : h.s ≡ k.s = ap (λ (p : E × S). p.1) pairs in
      let takes : Some h.x ≡ Some k.x = sym h.actor_part ∙ k.actor_part in
      let actors : h.x ≡ k.x = cc in
      h.next ∙ ap₂ (λ s x. after y w e s x) states actors ∙ sym k.next

  pub Run-one : (es : List E) (w u v : World S A) → Run y w es u → Run y w es v → u ≡ v
  Run-one = InTurn-one (Step y) Step-one

  pub Told-one : (a : ℕ) (es : List E) (t u : A) → Told y a es t → Told y a es u → t ≡ u
  Told-one a es = InTurn-one (ActorStep y a) (λ x t u e h k. let takes : Some t ≡ Some u = sym h.part ∙ k.part in cc) es (y.first_actor a)

  pub Kept-one : IsOneChange y → (i : ℕ) (es : List E) (t u : S) → Kept y i es t → Kept y i es u → t ≡ u
  Kept-one one i es = InTurn-one (InstanceStep y i) (λ s t u e h k. one i (y.actor e) h.seen k.seen s t u h.ask k.ask e h.part k.part) es (y.first_instance i)

  pub ended_stuck : (es : List E) (w : World S A) → Run y (opening y) es w → IsEnded y es ↔ IsStuck y w
  ended_stuck es w h = (
    (λ ended e v step. ended e (v, InTurn-join (Step y) es (e ∷ []) (opening y) w v h (v, step, refl))),
    (λ stuck e more.
        let cut = InTurn-split (Step y) es (e ∷ []) (opening y) more.0 more.1 in
        stuck e cut.2.0 (subst (λ u. Step y u e cut.2.0) (Run-one es (opening y) cut.0 w cut.1 h) cut.2.1)),
  )

  -- where the actor takes what the instance gives, a world has no step where each due ask has none, or one above the limit
  pub stuck_dues : IsTaking y → (w : World S A) → IsStuck y w ↔ NoDueStep y w
  stuck_dues taking w = (
    (λ stuck a i q s e due given.
        let takes = taking a i (w.actors a) q (w.instances i) s e due given in
        let actor : y.actor e ≡ a = takes.0 in
        let instance : y.instance e ≡ i = takes.1 in
        not-above (y.stamp e) y.steps (λ within.
        stuck e (after y w e s takes.2.0) record {
          ask = q;
          s = s;
          x = takes.2.0;
          due = rw (actor, instance) due;
          instance_part = rw (actor, instance) given;
          actor_part = rw actor takes.2.1;
          within = within;
          next = refl;
        })),
    (λ none e v step.
        let above : y.steps < y.stamp e = none (y.actor e) (y.instance e) step.ask step.s e step.due step.instance_part in
        let within : y.stamp e ≤ y.steps = step.within in
        omega arith),
  )
    where
      not-above : (m n : ℕ) → (m ≤ n → ⊥) → n < m
      not-above m n h = grind arith
