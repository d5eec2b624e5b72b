-- A step changes one instance and one actor, whose last stamps are then the step's: any step that this makes possible has a greater one.
use Rattle.std.proofs.Common.{◌≡◌, ◌≢◌, ℕ, suc, max, ◌<◌, true, false, ◌⊎◌, inl, inr, Option, Some, option_map, option_and_then, refl, sym, ap, ◌∙◌, subst, arith, eqb}
use Rattle.std.proofs.lemmas.Bool.Decides.{eqb_tells}
use Rattle.fp_base.proofs.Options.{mapped_some, then_some}
use Rattle.fp_events.specs.System.{System, Laws, IsTaking}
use Rattle.fp_events.specs.SystemRun.{World, Step, after}
use Rattle.fp_events.proofs.Turns.{updated-here, updated-other}

module _ {S A Q E : Type 0} (y : System S A Q E) where
  -- the entry that comes next of an actor, be its stamp within the limit or above it
  abbrev pub next : World S A → ℕ → Option (E × S)
  next w a = option_and_then (λ (d : ℕ × Q). y.instance_part d.0 (w.instances d.0) a d.1 (y.actor_stamp (w.actors a))) (y.due a (w.actors a))

  module _ (laws : Laws y) (w v : World S A) (e : E) (step : Step y w e v) where
    actor_last : y.actor_stamp (v.actors (y.actor e)) ≡ y.stamp e
    actor_last =
        ap y.actor_stamp (ap (λ (u : World S A). u.actors (y.actor e)) step.next ∙ updated-here w.actors (y.actor e) step.x)
        ∙ (laws.takes _ _ _ _ step.actor_part).last

    instance_last : y.instance_stamp (v.instances (y.instance e)) ≡ y.stamp e
    instance_last =
        ap y.instance_stamp (ap (λ (u : World S A). u.instances (y.instance e)) step.next ∙ updated-here w.instances (y.instance e) step.s)
        ∙ (laws.gives _ _ _ _ _ _ _ step.instance_part).last

    module _ (a : ℕ) (r : E × S) (d : ℕ × Q) (due_is : y.due a (v.actors a) ≡ Some d)
        (part_is : y.instance_part d.0 (v.instances d.0) a d.1 (y.actor_stamp (v.actors a)) ≡ Some r) where
      stamp_is : y.stamp r.0 ≡ suc (max (y.instance_stamp (v.instances d.0)) (y.actor_stamp (v.actors a)))
      stamp_is = (laws.gives d.0 a (y.actor_stamp (v.actors a)) (v.instances d.0) r.1 d.1 r.0 part_is).stamp

      by_actor : y.actor e ≡ a → y.stamp e < y.stamp r.0
      by_actor is =
          let last : y.actor_stamp (v.actors a) ≡ y.stamp e = subst (λ (n : ℕ). y.actor_stamp (v.actors n) ≡ y.stamp e) is actor_last in
          omega (arith, stamp_is, last)

      by_instance : y.instance e ≡ d.0 → y.stamp e < y.stamp r.0
      by_instance is =
          let last : y.instance_stamp (v.instances d.0) ≡ y.stamp e = subst (λ (n : ℕ). y.instance_stamp (v.instances n) ≡ y.stamp e) is instance_last in
          omega (arith, stamp_is, last)

      by_neither : y.actor e ≢ a → y.instance e ≢ d.0 → next w a ≡ Some r
      by_neither other elsewhere =
          let actor : v.actors a ≡ w.actors a = ap (λ (u : World S A). u.actors a) step.next ∙ updated-other w.actors (y.actor e) step.x a other in
          let instance : v.instances d.0 ≡ w.instances d.0 =
          ap (λ (u : World S A). u.instances d.0) step.next ∙ updated-other w.instances (y.instance e) step.s d.0 elsewhere in
          let due_before : y.due a (w.actors a) ≡ Some d = subst (λ (x : A). y.due a x ≡ Some d) actor due_is in
          let part_before : y.instance_part d.0 (w.instances d.0) a d.1 (y.actor_stamp (w.actors a)) ≡ Some r =
          subst (λ (s : S). y.instance_part d.0 s a d.1 (y.actor_stamp (w.actors a)) ≡ Some r) instance
          (subst (λ (x : A). y.instance_part d.0 (v.instances d.0) a d.1 (y.actor_stamp x) ≡ Some r) actor part_is) in
          ap (option_and_then (λ (b : ℕ × Q). y.instance_part b.0 (w.instances b.0) a b.1 (y.actor_stamp (w.actors a)))) due_before ∙ part_before

      raised_at : (next w a ≡ Some r) ⊎ (y.stamp e < y.stamp r.0)
      raised_at = go (eqb_tells (y.actor e) a) (eqb_tells (y.instance e) d.0)
        where
          go : ((eqb (y.actor e) a ≡ true) × (y.actor e ≡ a)) ⊎ ((eqb (y.actor e) a ≡ false) × (y.actor e ≢ a))
              → ((eqb (y.instance e) d.0 ≡ true) × (y.instance e ≡ d.0)) ⊎ ((eqb (y.instance e) d.0 ≡ false) × (y.instance e ≢ d.0))
              → (next w a ≡ Some r) ⊎ (y.stamp e < y.stamp r.0)
          go (inl mine) i = inr (by_actor mine.1)
          go (inr other) (inl here) = inr (by_instance here.1)
          go (inr other) (inr elsewhere) = inl (by_neither other.1 elsewhere.1)

    -- what comes next of an actor after the step came next before it, or has a greater stamp
    pub raised : (a : ℕ) (r : E × S) → next v a ≡ Some r → (next w a ≡ Some r) ⊎ (y.stamp e < y.stamp r.0)
    raised a r is =
        let m = then_some (λ (d : ℕ × Q). y.instance_part d.0 (v.instances d.0) a d.1 (y.actor_stamp (v.actors a))) (y.due a (v.actors a)) r is in
        raised_at a r m.0 m.1 m.2

    pub raised_stamp : (a n : ℕ) → option_map (λ (r : E × S). y.stamp r.0) (next v a) ≡ Some n
        → (option_map (λ (r : E × S). y.stamp r.0) (next w a) ≡ Some n) ⊎ (y.stamp e < n)
    raised_stamp a n is =
        let m = mapped_some (λ (r : E × S). y.stamp r.0) (next v a) n is in
        go m.0 m.2 (raised a m.0 m.1)
      where
        go : (r : E × S) → y.stamp r.0 ≡ n → (next w a ≡ Some r) ⊎ (y.stamp e < y.stamp r.0)
            → (option_map (λ (r : E × S). y.stamp r.0) (next w a) ≡ Some n) ⊎ (y.stamp e < n)
        go r stamp (inl before) = inl (ap (option_map (λ (r : E × S). y.stamp r.0)) before ∙ ap Some stamp)
        go r stamp (inr above) = inr (subst (λ (k : ℕ). y.stamp e < k) stamp above)

    module _ (taking : IsTaking y) (f : E) (u : World S A) (later : Step y v f u) where
      -- a step that came next before is a step then
      step_before : next w (y.actor f) ≡ Some (f, later.s) → (x : World S A) × Step y w f x
      step_before is =
          let m = then_some (λ (d : ℕ × Q). y.instance_part d.0 (w.instances d.0) (y.actor f) d.1 (y.actor_stamp (w.actors (y.actor f))))
          (y.due (y.actor f) (w.actors (y.actor f))) (f, later.s) is in
          let d : ℕ × Q = m.0 in
          let takes = taking (y.actor f) d.0 (w.actors (y.actor f)) d.1 (w.instances d.0) later.s f m.1 m.2 in
          let instance : y.instance f ≡ d.0 = takes.1 in (
            after y w f later.s takes.2.0,
            record {
              ask = d.1;
              s = later.s;
              x = takes.2.0;
              due = m.1 ∙ ap (λ (n : ℕ). Some (n, d.1)) (sym instance);
              instance_part = subst (λ (n : ℕ). y.instance_part n (w.instances n) (y.actor f) d.1 (y.actor_stamp (w.actors (y.actor f))) ≡ Some (f, later.s)) (sym instance) m.2;
              actor_part = takes.2.1;
              within = later.within;
              next = refl;
            },
          )

      pub raised_step : ((x : World S A) × Step y w f x) ⊎ (y.stamp e < y.stamp f)
      raised_step = go (raised (y.actor f) (f, later.s) coming)
        where
          coming : next v (y.actor f) ≡ Some (f, later.s)
          coming =
              ap (option_and_then (λ (d : ℕ × Q). y.instance_part d.0 (v.instances d.0) (y.actor f) d.1 (y.actor_stamp (v.actors (y.actor f))))) later.due
              ∙ later.instance_part

          go : (next w (y.actor f) ≡ Some (f, later.s)) ⊎ (y.stamp e < y.stamp f) → ((x : World S A) × Step y w f x) ⊎ (y.stamp e < y.stamp f)
          go (inl before) = inl (step_before before)
          go (inr above) = inr above
