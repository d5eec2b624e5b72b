-- What actors do in any order is a run.
use Rattle.std.proofs.Common.{◌≡◌, ℕ, ◌≤◌, Bool, true, false, cond, nat_le, Option, Some, None, option_map, option_and_then, List, [], ◌∷◌, refl, subst, arith}
use Rattle.std.proofs.lemmas.Bool.Decides.{nat_tests}
use Rattle.fp_events.specs.System.{System, IsTaking}
use Rattle.fp_events.specs.SystemRun.{World, after, Step, Run}
use Rattle.fp_events.specs.Schedule.{taken, turn, schedule}
use Rattle.fp_base.proofs.Options.{mapped_some, then_some}

pub cond_some : {U : Type 0} (b : Bool) (o : Option U) (u : U) → cond b o None ≡ Some u → (b ≡ true) × (o ≡ Some u)
cond_some true o u h = (refl, h)
cond_some false o u h = absurd (cc)

module _ {S A Q E : Type 0} (y : System S A Q E) (taking : IsTaking y) where
  make_step : (w : World S A) (a i : ℕ) (ask : Q) (s : S) (x : A) (e : E) → y.due a (w.actors a) ≡ Some (i, ask)
      → y.instance_part i (w.instances i) a ask (y.actor_stamp (w.actors a)) ≡ Some (e, s) → y.actor_part a (w.actors a) e ≡ Some x
      → y.stamp e ≤ y.steps → y.actor e ≡ a → y.instance e ≡ i → Step y w e (after y w e s x)
  make_step w a i ask s x e due gave took within actor instance = record {
    ask = ask;
    s = s;
    x = x;
    due = rw (actor, instance) due;
    instance_part = rw (actor, instance) gave;
    actor_part = rw actor took;
    within = within;
    next = refl;
  }

  turn_step : (w v : World S A) (a : ℕ) (e : E) → turn y w a ≡ Some (e, v) → Step y w e v
  turn_step w v a e h =
      let asked = then_some (λ (d : ℕ × Q). option_and_then (taken y w a) (y.instance_part d.0 (w.instances d.0) a d.1 (y.actor_stamp (w.actors a)))) (y.due a (w.actors a)) (e, v) h in
      let d : ℕ × Q = asked.0 in
      let gave = then_some (taken y w a) (y.instance_part d.0 (w.instances d.0) a d.1 (y.actor_stamp (w.actors a))) (e, v) asked.2 in
      let r : E × S = gave.0 in
      let low = cond_some (nat_le (y.stamp r.0) y.steps) (option_map (λ x. (r.0, after y w r.0 r.1 x)) (y.actor_part a (w.actors a) r.0)) (e, v) gave.2 in
      let took = mapped_some (λ x. (r.0, after y w r.0 r.1 x)) (y.actor_part a (w.actors a) r.0) (e, v) low.1 in
      let x : A = took.0 in
      let takes = taking a d.0 (w.actors a) d.1 (w.instances d.0) r.1 r.0 asked.1 gave.1 in
      let step = make_step w a d.0 d.1 r.1 x r.0 asked.1 gave.1 took.1 (within r.0 low.0) takes.0 takes.1 in
      subst (λ (p : E × World S A). Step y w p.0 p.1) took.2 step
    where
      within : (f : E) → nat_le (y.stamp f) y.steps ≡ true → y.stamp f ≤ y.steps
      within f is = grind (arith, nat_tests)

  pub schedule_run : (order : List ℕ) (w v : World S A) (es : List E) → schedule y w order ≡ Some (es, v) → Run y w es v
  schedule_run [] w v es h =
      let same : ◌≡◌ {A = List E × World S A} ([], w) (es, v) = cc in
      subst (λ (p : List E × World S A). Run y w p.0 p.1) same refl
  schedule_run (a ∷ order) w v es h =
      let first = then_some (λ (r : E × World S A). option_map (λ (rest : List E × World S A). (r.0 ∷ rest.0, rest.1)) (schedule y r.1 order)) (turn y w a) (es, v) h in
      let r : E × World S A = first.0 in
      let rest = mapped_some (λ (rest : List E × World S A). (r.0 ∷ rest.0, rest.1)) (schedule y r.1 order) (es, v) first.2 in
      let tail : Run y r.1 rest.0.0 rest.0.1 = schedule_run order r.1 rest.0.1 rest.0.0 rest.1 in
      subst (λ (p : List E × World S A). Run y w p.0 p.1) rest.2 (r.1, turn_step w r.1 a r.0 first.1, tail)
