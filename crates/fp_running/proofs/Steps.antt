-- The one step that a world has for an actor, and where it has none.
use Rattle.std.proofs.Common.{◌≡◌, ◌<◌, ◌≤◌, ℕ, Bool, true, false, List, [], ◌∷◌, ◌++◌, append_assoc, Option, Some, None, option_map, option_and_then, is_some, unwrap_or, nat_le, refl, sym, ap, ◌∙◌, subst, arith}
use Rattle.std.proofs.lemmas.Bool.Decides.{nat_tests}
use Rattle.fp_base.proofs.Options.{same_some}
use Rattle.fp_events.specs.SystemRun as system
use Rattle.fp_events.proofs.Turns.{InTurn-more, InTurn-split}
use Rattle.fp_tables.specs.Lookup.{Described}
use Rattle.fp_tables.specs.declared.program.Program.{Program}
use Rattle.fp_events.specs.declared.event.Ask.{Ask}
use Rattle.fp_events.specs.declared.event.Entry.{Entry}
use Rattle.fp_events.specs.Due.{due}
use Rattle.fp_events.specs.Ends.{IsEnded, can_step, next_stamp}
use Rattle.fp_events.specs.Instance.{InstanceState}
use Rattle.fp_events.specs.Run.{World, opening, RunTo, IsRun}
use Rattle.fp_events.specs.Step.{core, instance_part}
use Rattle.fp_running.specs.declared.turn.Turn.{Turn}
use Rattle.fp_running.specs.declared.turn.Turn.TheVariants as turn
use Rattle.fp_running.specs.Progress.{Progress, Added, Comes, Leaves, Turned, and_then}
use Rattle.fp_running.specs.Turns.{is_above, is_step}

-- a run leaves one world
abbrev pub OneWorld : Type 0
OneWorld = (t : Described) (p : Program) (es : List Entry) (v w : World) → RunTo t p es v → RunTo t p es w → v ≡ w

module _ (t : Described) (p : Program) where
  -- the entry that comes next of an actor
  abbrev pub next : World → ℕ → Option (Entry × InstanceState)
  next w a = option_and_then (λ (d : ℕ × Ask). instance_part t p d.0 (w.instances d.0) a d.1 (w.actors a).last) (due t p a (w.actors a).thread)

  next_of_step : (w v : World) (e : Entry) (step : system.Step (core t p) w e v) → next w e.actor ≡ Some (e, step.s)
  next_of_step w v e step =
      let is_due : due t p e.actor (w.actors e.actor).thread ≡ Some (e.instance, step.ask) = step.due in
      let gives : instance_part t p e.instance (w.instances e.instance) e.actor step.ask (w.actors e.actor).last ≡ Some (e, step.s) = step.instance_part in
      rw (is_due, gives) refl

  pub stamp_of_step : (w v : World) (e : Entry) → system.Step (core t p) w e v → next_stamp t p w e.actor ≡ Some e.stamp
  stamp_of_step w v e step = ap (option_map (λ (r : Entry × InstanceState). r.0.stamp)) (next_of_step w v e step)

  -- an actor has one step
  pub one_step : (w u v : World) (e f : Entry) → system.Step (core t p) w e u → system.Step (core t p) w f v → f.actor ≡ e.actor → e ≡ f
  one_step w u v e f step other is =
      ap (λ (r : Entry × InstanceState). r.0)
      (same_some (sym (next_of_step w u e step) ∙ subst (λ (a : ℕ). next w a ≡ Some (f, other.s)) is (next_of_step w v f other)))

  -- a run with one entry more goes on by a step
  pub last_step : OneWorld → (es : List Entry) (e : Entry) (w : World) → RunTo t p es w → IsRun t p (es ++ e ∷ []) → (v : World) × system.Step (core t p) w e v
  last_step one es e w run more =
      let cut = InTurn-split (system.Step (core t p)) es (e ∷ []) (opening t p) more.0 more.1 in
      (cut.2.0, subst (λ (u : World). system.Step (core t p) u e cut.2.0) (one t p es cut.0 w cut.1 run) cut.2.1)

-- an actor has no step within the limit, and none at all
abbrev pub Cannot : Progress → ℕ → Type 0
Cannot q a = (w : World) → Leaves q w → can_step q.tables q.program w a ≡ false

abbrev pub HasNone : Progress → ℕ → Type 0
HasNone q a = (w : World) → Leaves q w → is_some (next_stamp q.tables q.program w a) ≡ false

module _ (one : OneWorld) (r s : Progress) where
  within_of : (e : Entry) (w v : World) → system.Step (core r.tables r.program) w e v → e.stamp ≤ r.program.steps
  within_of e w v step = step.within

  -- a turn of the actor of an entry that a run has next gives that entry
  pub replays : (e : Entry) (u : Turn) → Turned e.actor u r s → IsRun r.tables r.program (r.entries ++ e ∷ []) → s ≡ and_then r (e ∷ [])
  replays e u h more = go u h.2 (last_step r.tables r.program one r.entries e h.0 h.1 more)
    where
      go : (u : Turn) → Comes r s h.0 e.actor u → (v : World) × system.Step (core r.tables r.program) h.0 e v → s ≡ and_then r (e ∷ [])
      go (turn.Stepped i stamp) c step =
          c.added ∙ ap (λ (f : Entry). and_then r (f ∷ [])) (sym (one_step r.tables r.program h.0 step.0 c.after e c.entry step.1 c.step c.actor))
      go (turn.NotYet i why) c step = let is : Some e.stamp ≡ None = sym (stamp_of_step r.tables r.program h.0 step.0 e step.1) ∙ c.0.none in absurd (cc)
      go turn.AtLimit c step =
          let is : c.0.stamp ≡ e.stamp = same_some (sym c.0.next ∙ stamp_of_step r.tables r.program h.0 step.0 e step.1) in
          let low = within_of e h.0 step.0 step.1 in
          absurd (omega (arith, is, c.0.above, low))
      go turn.AtEnd c step = let is : Some (e.instance, step.1.ask) ≡ None = sym step.1.due ∙ c.0.none in absurd (cc)
      go turn.Halted c step = let is : Some (e.instance, step.1.ask) ≡ None = sym step.1.due ∙ c.0.none in absurd (cc)

  none_next : (w : World) (a : ℕ) → due r.tables r.program a (w.actors a).thread ≡ None → next_stamp r.tables r.program w a ≡ None
  none_next w a is = rw is refl

  too_high : (n : ℕ) → r.program.steps < n → nat_le n r.program.steps ≡ false
  too_high n h = grind (arith, nat_tests)

  -- what comes next of an actor that didn't step has a stamp above the limit
  module _ (a : ℕ) where
    unable : (w : World) (u : Turn) → Comes r s w a u → is_step u ≡ false → can_step r.tables r.program w a ≡ false
    unable w (turn.Stepped i stamp) c no_step = absurd (cc)
    unable w (turn.NotYet i why) c no_step = rw (c.0.none) refl
    unable w turn.AtLimit c no_step = rw (c.0.next) (too_high c.0.stamp c.0.above)
    unable w turn.AtEnd c no_step = rw (none_next w a c.0.none) refl
    unable w turn.Halted c no_step = rw (none_next w a c.0.none) refl

    -- no step was taken, and nothing changed
    pub cannot : (u : Turn) → Turned a u r s → is_step u ≡ false → Cannot r a
    cannot u h no_step w leaves = subst (λ (v : World). can_step r.tables r.program v a ≡ false) (one r.tables r.program r.entries h.0 w h.1 leaves) (unable h.0 u h.2 no_step)

    pub unchanged : (u : Turn) → Turned a u r s → is_step u ≡ false → s ≡ r
    unchanged u h no_step = go u h.2 no_step
      where
        go : (u : Turn) → Comes r s h.0 a u → is_step u ≡ false → s ≡ r
        go (turn.Stepped i stamp) c no_step = absurd (cc)
        go (turn.NotYet i why) c no_step = c.1
        go turn.AtLimit c no_step = c.1
        go turn.AtEnd c no_step = c.1
        go turn.Halted c no_step = c.1

    -- one step was taken
    pub taken : (u : Turn) → Turned a u r s → is_step u ≡ true → Added true r s
    taken u h step = go u h.2 step
      where
        go : (u : Turn) → Comes r s h.0 a u → is_step u ≡ true → Added true r s
        go (turn.Stepped i stamp) c step = (c.entry, [], c.added)
        go (turn.NotYet i why) c step = absurd (cc)
        go turn.AtLimit c step = absurd (cc)
        go turn.AtEnd c step = absurd (cc)
        go turn.Halted c step = absurd (cc)

    -- after an end no step is taken
    pub not_taken : (u : Turn) → Turned a u r s → IsEnded r.tables r.program r.entries → is_step u ≡ false
    not_taken u h ended = go u h.2
      where
        go : (u : Turn) → Comes r s h.0 a u → is_step u ≡ false
        go (turn.Stepped i stamp) c =
            absurd (ended c.entry (c.after, InTurn-more (system.Step (core r.tables r.program)) r.entries (opening r.tables r.program) h.0 c.after c.entry h.1 c.step))
        go (turn.NotYet i why) c = refl
        go turn.AtLimit c = refl
        go turn.AtEnd c = refl
        go turn.Halted c = refl

    above : (w : World) (u : Turn) → Comes r s w a u → is_step u ≡ false → is_some (next_stamp r.tables r.program w a) ≡ is_above u
    above w (turn.Stepped i stamp) c no_step = absurd (cc)
    above w (turn.NotYet i why) c no_step = rw (c.0.none) refl
    above w turn.AtLimit c no_step = rw (c.0.next) refl
    above w turn.AtEnd c no_step = rw (none_next w a c.0.none) refl
    above w turn.Halted c no_step = rw (none_next w a c.0.none) refl

    -- whether a step above the limit comes next
    pub comes_above : (u : Turn) → Turned a u r s → is_step u ≡ false → (w : World) → Leaves r w → is_some (next_stamp r.tables r.program w a) ≡ is_above u
    comes_above u h no_step w leaves =
        subst (λ (v : World). is_some (next_stamp r.tables r.program v a) ≡ is_above u) (one r.tables r.program r.entries h.0 w h.1 leaves) (above h.0 u h.2 no_step)
