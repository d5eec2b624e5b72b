-- The projections of a run.
use Rattle.std.proofs.Common.{◌≡◌, ℕ, suc, max, List, ◌∷◌, sym, ap, ap₂, subst, ◌∙◌, arith, Some}
use Rattle.fp_events.specs.System.{System, Laws}
use Rattle.fp_events.specs.SystemRun.{InTurn, World, at, by, opening, Step, InstanceStep, ActorStep, Run, Kept, Told, IsStamped, last_or, Rises}
use Rattle.fp_events.proofs.Turns.{updated-here, updated-other, project, InTurn-split, InTurn-last, InTurn-rises}

module _ {S A Q E : Type 0} (y : System S A Q E) (laws : Laws y) where
  -- the two parts of a step
  instance_step : (w v : World S A) (e : E) → Step y w e v → InstanceStep y (y.instance e) (w.instances (y.instance e)) e (v.instances (y.instance e))
  instance_step w v e h =
      let same : v.instances (y.instance e) ≡ h.s = ap (λ (u : World S A). u.instances (y.instance e)) h.next ∙ updated-here w.instances (y.instance e) h.s in
      record { ask = h.ask; seen = y.actor_stamp (w.actors (y.actor e)); part = h.instance_part ∙ ap (λ s. Some (e, s)) (sym same); within = h.within }

  actor_step : (w v : World S A) (e : E) → Step y w e v → ActorStep y (y.actor e) (w.actors (y.actor e)) e (v.actors (y.actor e))
  actor_step w v e h =
      let same : v.actors (y.actor e) ≡ h.x = ap (λ (u : World S A). u.actors (y.actor e)) h.next ∙ updated-here w.actors (y.actor e) h.x in
      let given = laws.gives _ _ _ _ _ _ _ h.instance_part in
      record { seen = y.instance_stamp (w.instances (y.instance e)); part = h.actor_part ∙ ap Some (sym same); stamp = given.stamp }

  pub at_run : (es : List E) (w v : World S A) → Run y w es v → (i : ℕ) → InTurn (InstanceStep y i) (w.instances i) (at y i es) (v.instances i)
  at_run = project y.instance (Step y) (InstanceStep y) (λ u. u.instances) instance_step
      (λ w v e k h other. ap (λ (u : World S A). u.instances k) h.next ∙ updated-other w.instances (y.instance e) h.s k other)

  pub by_run : (es : List E) (w v : World S A) → Run y w es v → (a : ℕ) → InTurn (ActorStep y a) (w.actors a) (by y a es) (v.actors a)
  by_run = project y.actor (Step y) (ActorStep y) (λ u. u.actors) actor_step
      (λ w v e k h other. ap (λ (u : World S A). u.actors k) h.next ∙ updated-other w.actors (y.actor e) h.x k other)

  -- the state after a history has its last stamp, and so has the state after a trace
  pub kept_last : (i : ℕ) (es : List E) (t : S) → Kept y i es t → y.instance_stamp t ≡ last_or y.stamp 0 es
  kept_last i es t h =
      InTurn-last (InstanceStep y i) y.instance_stamp y.stamp (λ s t e k. (laws.gives _ _ _ _ _ _ _ k.part).last) es (y.first_instance i) t h
      ∙ ap (λ n. last_or y.stamp n es) (laws.first_instance i)

  pub told_last : (a : ℕ) (es : List E) (z : A) → Told y a es z → y.actor_stamp z ≡ last_or y.stamp 0 es
  told_last a es z h =
      InTurn-last (ActorStep y a) y.actor_stamp y.stamp (λ x z e k. (laws.takes _ _ _ _ k.part).last) es (y.first_actor a) z h
      ∙ ap (λ n. last_or y.stamp n es) (laws.first_actor a)

  -- stamps rise along a history and along a trace
  pub kept_rises : (i : ℕ) (es : List E) (t : S) → Kept y i es t → Rises y.stamp 0 es
  kept_rises i es t h =
      subst (λ n. Rises y.stamp n es) (laws.first_instance i)
      (InTurn-rises (InstanceStep y i) y.instance_stamp y.stamp (λ s t e k. (laws.gives _ _ _ _ _ _ _ k.part).last)
      (λ s t e k. let given = laws.gives _ _ _ _ _ _ _ k.part in omega (arith, given.stamp)) es (y.first_instance i) t h)

  pub told_rises : (a : ℕ) (es : List E) (z : A) → Told y a es z → Rises y.stamp 0 es
  told_rises a es z h =
      subst (λ n. Rises y.stamp n es) (laws.first_actor a)
      (InTurn-rises (ActorStep y a) y.actor_stamp y.stamp (λ x z e k. (laws.takes _ _ _ _ k.part).last)
      (λ x z e k. omega (arith, k.stamp)) es (y.first_actor a) z h)

  -- the stamps of a run are those of Lamport's clock
  pub run_stamped : (es : List E) (v : World S A) → Run y (opening y) es v → IsStamped y es
  run_stamped es v h e before rest same =
      let cut = InTurn-split (Step y) before (e ∷ rest) (opening y) v (subst (λ l. Run y (opening y) l v) same h) in
      let first : Step y cut.0 e cut.2.0 = cut.2.1 in
      let given = laws.gives _ _ _ _ _ _ _ first.instance_part in
      given.stamp ∙ ap₂ (λ m n. suc (max m n))
      (kept_last (y.instance e) (at y (y.instance e) before) (cut.0.instances (y.instance e)) (at_run before (opening y) cut.0 cut.1 (y.instance e)))
      (told_last (y.actor e) (by y (y.actor e) before) (cut.0.actors (y.actor e)) (by_run before (opening y) cut.0 cut.1 (y.actor e)))
