-- What a cell owes at each of its answers.
use Rattle.std.proofs.Common.{◌≡◌, ◌≤◌, ◌<◌, ℕ, ℤ, suc, max, true, List, [], ◌∷◌, ◌++◌, Some, None, is_some, not, refl, sym, ap, ap₂, ◌∙◌, subst, arith}
use Rattle.fp_tables.specs.Sound.{IsSound}
use Rattle.fp_events.proofs.Waiting.{tells_or_waits}
use Rattle.fp_events.specs.Fits.{actor_count, fits, ask_fits}
use Rattle.fp_events.specs.Instance.{Inside as Left, InstanceState}
use Rattle.fp_events.specs.SystemRun.{Kept}
use Rattle.fp_events.specs.Step.{core, instance_part, stamped}
use Rattle.fp_events.specs.Tells.{tells}
use Rattle.fp_events.specs.Waits.{waits}
use Rattle.fp_events.specs.declared.event.Ask.{Ask}
use Rattle.fp_events.specs.declared.event.Entry.{Entry}
use Rattle.fp_events.specs.declared.event.What.{What}
use Rattle.fp_cell.specs.Kept.{standing, IsKept}
use Rattle.fp_cell.specs.Kinded.{IsKinded}
use Rattle.fp_cell.specs.Ready.{IsReady}
use Rattle.fp_cell.specs.Replies.{IsAbove, IsStep}
use Rattle.fp_cell.specs.Settled.{AreKnown}
use Rattle.fp_cell.specs.Stepping.{HasSameQueue, Steps, inside}
use Rattle.fp_cell.specs.declared.cell.Cell.TheInside.{Inside}
use Rattle.fp_cell.specs.declared.setting.Setting.{Setting}
use Rattle.fp_cell.specs.declared.state.State.{State}
use Rattle.fp_cell.proofs.Goes.{GoesOn, asked_there, goes_on_well}
use Rattle.fp_base.proofs.Options.{some_of}
use Rattle.fp_cell.proofs.Machines.{machines_go_well}
use Rattle.fp_cell.proofs.Parts.{good_parts}
use Rattle.fp_cell.proofs.Stamped.{fits_of, part_of, goes_on}

module _ (s : Setting) (x : State) (ready : IsReady s x) where
  abbrev pub sound : IsSound s.tables.now.model
  sound = ready.sound.0

  -- an ask with nothing against it is told something
  pub told_some : (q : Ask) → ask_fits s.tables.now s.program.now s.instance q ≡ true → waits s.tables.now s.instance (inside x) q ≡ None
      → (w : What) × (tells s.tables.now s.program.now s.instance (inside x) q ≡ Some w)
  told_some q can free =
      let there = asked_there s.tables.now s.program.now s.instance 0 (inside x) (good_parts s.tables.now s.instance sound) (machines_go_well s.tables.now s.program.now s.instance sound) ready.kinded q can in
      some_of (tells s.tables.now s.program.now s.instance (inside x) q)
      (tells_or_waits s.tables.now s.program.now s.instance (inside x) q there ∙ ap (λ o. not (is_some o)) free)

  pub well : (a : ℕ) (q : Ask) (w : What) → ask_fits s.tables.now s.program.now s.instance q ≡ true → tells s.tables.now s.program.now s.instance (inside x) q ≡ Some w
      → GoesOn s.tables.now s.program.now s.instance a (inside x) (good_parts s.tables.now s.instance sound) (machines_go_well s.tables.now s.program.now s.instance sound) ready.kinded w
  well a q w can told =
      goes_on_well s.tables.now s.program.now s.instance a (inside x) (good_parts s.tables.now s.instance sound) (machines_go_well s.tables.now s.program.now s.instance sound) ready.kinded q w can told

module _ (c : Inside) (k : IsKept c) (actor seen : ℕ) (q : Ask) (few : actor < actor_count c.setting.tables.now c.setting.program.now)
    (can : ask_fits c.setting.tables.now c.setting.program.now c.setting.instance q ≡ true) where
  fit : (w : What) → tells c.setting.tables.now c.setting.program.now c.setting.instance (inside c.state) q ≡ Some w → fits c.setting.tables.now c.setting.program.now actor c.setting.instance w ≡ true
  fit w told = fits_of c.setting.tables.now c.setting.program.now c.setting.instance actor w few k.placed (well c.setting c.state k.ready actor q w can told).fits

  pub above : waits c.setting.tables.now c.setting.instance (inside c.state) q ≡ None → c.setting.program.now.steps ≤ max c.last seen → IsAbove (standing c) actor q seen
  above free limit =
      let w = told_some c.setting c.state k.ready q can free in
      let made = stamped c.setting.tables.now c.setting.program.now (suc (max c.last seen)) actor c.setting.instance (inside c.state) w.0 in
      record {
        entry = made.0;
        left = made.1;
        part = part_of c.setting.tables.now c.setting.program.now c.setting.instance (record { inside = inside c.state; last = c.last }) actor seen q w.0 w.1 (fit w.0 w.1);
        above = omega arith;
      }

  module _ (x : State) (stamp : ℕ) (es : List Entry) (e : Entry) (is : e ≡ record { stamp = stamp; actor = actor; instance = c.setting.instance; what = e.what })
      (step : Steps c.setting.tables.now c.setting.program.now c.setting.instance actor q (inside c.state) e.what (inside x)) (on : stamp ≡ suc (max c.last seen))
      (last : es ≡ c.history ++ e ∷ []) (within : stamp ≤ c.setting.program.now.steps) (queue : HasSameQueue c.state x) where
    part_is : instance_part c.setting.tables.now c.setting.program.now c.setting.instance (record { inside = inside c.state; last = c.last }) actor q seen
        ≡ Some (e, record { inside = inside x; last = stamp })
    part_is =
        part_of c.setting.tables.now c.setting.program.now c.setting.instance (record { inside = inside c.state; last = c.last }) actor seen q e.what step.told (fit e.what step.told)
        ∙ ap₂ (λ (n : ℕ) (y : Left). Some (made n, left y n)) (sym on) (sym step.left)
        ∙ ap (λ (z : Entry). Some (z, left (inside x) stamp)) (sym is)
      where
        made : ℕ → Entry
        made n = record { stamp = n; actor = actor; instance = c.setting.instance; what = e.what }

        left : Left → ℕ → InstanceState
        left y n = record { inside = y; last = n }

    stamp_is : e.stamp ≤ c.setting.program.now.steps
    stamp_is = subst (λ (n : ℕ). n ≤ c.setting.program.now.steps) (sym (ap (λ (z : Entry). z.stamp) is)) within

    pub stepped : IsStep (standing c) actor q seen e (standing (record c { state = x; last = stamp; history = es }))
    stepped = record { part = part_is; within = stamp_is; seat = refl; history = last }

    ready : IsReady c.setting x
    ready =
        record {
          sound = k.ready.sound;
          set = k.ready.set;
          size = k.ready.size ∙ sym queue.0;
          known = λ some. subst (λ (ps : List ℤ). AreKnown c.setting.tables.now c.setting.instance ps) (sym queue.1) (k.ready.known (subst (λ (n : ℕ). 0 < n) queue.0 some));
          kinded = subst (λ (y : Left). IsKinded c.setting.tables.now c.setting.program.now c.setting.instance y) (sym step.left) (well c.setting c.state k.ready actor q e.what can step.told).left;
        }

    pub kept : IsKept (record c { state = x; last = stamp; history = es })
    kept =
        record {
          ready = ready;
          placed = k.placed;
          kept = subst (λ (l : List Entry). Kept (core c.setting.tables.now c.setting.program.now) c.setting.instance l (record { inside = inside x; last = stamp })) (sym last)
              (goes_on c.setting.tables.now c.setting.program.now c.setting.instance c.history (record { inside = inside c.state; last = c.last }) (record { inside = inside x; last = stamp }) e q seen k.kept
              (subst (λ (n : ℕ). instance_part c.setting.tables.now c.setting.program.now c.setting.instance (record { inside = inside c.state; last = c.last }) n q seen
              ≡ Some (e, record { inside = inside x; last = stamp })) (sym (ap (λ (z : Entry). z.actor) is)) part_is) stamp_is);
        }
