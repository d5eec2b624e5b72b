-- A run is ended exactly where no actor has a due step within the limit, and a spent run reaches the limit.
use Rattle.std.proofs.Common.{◌≡◌, ℕ, zero, suc, ◌+◌, ◌<◌, ◌≤◌, zero-le, Bool, true, false, cond, ◌&&◌, ◌||◌, nat_lt, nat_le, Option, Some, None, option_map, option_and_then, is_some, unwrap_or, List, [], ◌∷◌, refl, sym, ap, ◌∙◌, ◌↔◌, arith, ◌⊎◌, inl, inr}
use Rattle.std.specs.List.{list_any, range_with_len}
use Rattle.std.proofs.lemmas.Bool.Decides.{nat_tests}
use Rattle.fp_base.proofs.Passing.{none_passes}
use Rattle.fp_base.proofs.Options.{mapped_some, then_some, some_of}
use Rattle.fp_events.proofs.SystemEnded.{ended_stuck, stuck_dues}
use Rattle.fp_events.proofs.Spent.{spent_stamp}
use Rattle.fp_base.proofs.Bools.{both, neither}
use Rattle.fp_tables.specs.Lookup.{Described}
use Rattle.fp_tables.specs.declared.program.Program.{Program}
use Rattle.fp_events.specs.declared.event.Ask.{Ask}
use Rattle.fp_events.specs.declared.event.Entry.{Entry}
use Rattle.fp_events.specs.declared.event.What.{What}
use Rattle.fp_events.specs.declared.event.Finish.{Finish}
use Rattle.fp_events.specs.declared.event.Finish.TheVariants.{Complete, Stuck, Spent, Asserted}
use Rattle.fp_events.specs.Instance.{InstanceState}
use Rattle.fp_events.specs.Due.{due}
use Rattle.fp_events.specs.Fits.{fits, actor_count, what_fits}
use Rattle.fp_tables.specs.Acts.{is_placed}
use Rattle.fp_events.specs.Step.{core, instance_part}
use Rattle.fp_events.specs.Run.{World, actors, RunTo, IsRun, HasStamp}
use Rattle.fp_events.specs.Ends.{can_step, next_stamp, finish, is_asserted, is_complete, HasNoDueStep, IsEnded, EndsAs}
use Rattle.fp_events.proofs.StepLaws.{given, core_laws, core_taking}

none_from : (p : ℕ → Bool) (b n a : ℕ) → b ≤ a → a < b + n → list_any p (range_with_len b n) ≡ false → p a ≡ false
none_from p b zero a low high h = absurd (omega arith)
none_from p b (suc n) a low high h =
    let parts = neither (p b) (list_any p (range_with_len (b + 1) n)) h in
    go (first b a low) parts.0 (λ above. none_from p (b + 1) n a (omega arith) (omega arith) parts.1)
  where
    first : (b a : ℕ) → b ≤ a → (a ≡ b) ⊎ (b < a)
    first b a low = grind (arith)

    go : (a ≡ b) ⊎ (b < a) → p b ≡ false → (b < a → p a ≡ false) → p a ≡ false
    go (inl e) here again = rw e here
    go (inr above) here again = again above

any_is : {A : Type 0} (p : A → Bool) (xs : List A) → list_any p xs ≡ true → (x : A) × (p x ≡ true)
any_is p [] h = absurd (cc)
any_is {A} p (x ∷ xs) h = go (p x) refl (any_is p xs) h
  where
    go : (b : Bool) → p x ≡ b → (list_any p xs ≡ true → (y : A) × (p y ≡ true)) → (b || list_any p xs) ≡ true → (y : A) × (p y ≡ true)
    go true is again h = (x, is)
    go false is again h = again h

-- what the tests of an end say
pub ending : (can asserted above complete : Bool) (f : Finish)
    → cond can None (Some (cond asserted Asserted (cond above Spent (cond complete Complete Stuck)))) ≡ Some f → can ≡ false
ending true asserted above complete f h = absurd (cc)
ending false asserted above complete f h = refl

spent_above : (can asserted above complete : Bool)
    → cond can None (Some (cond asserted Asserted (cond above Spent (cond complete Complete Stuck)))) ≡ Some Spent → above ≡ true
spent_above true asserted above complete h = absurd (cc)
spent_above false true above complete h = absurd (cc)
spent_above false false true complete h = refl
spent_above false false false true h = absurd (cc)
spent_above false false false false h = absurd (cc)

module _ (t : Described) (program : Program) where
  fit_actor : (a i : ℕ) (w : What) → fits t program a i w ≡ true → a < actor_count t program
  unfolding fits
  fit_actor a i w h =
      let x = both (nat_lt a (actor_count t program) && is_placed t i) (what_fits t program i w) h in
      let y = both (nat_lt a (actor_count t program)) (is_placed t i) x.0 in
      lt y.0
    where
      lt : nat_lt a (actor_count t program) ≡ true → a < actor_count t program
      lt is = grind (arith, nat_tests)

  pub stamp_is : (w : World) (a i : ℕ) (q : Ask) (e : Entry) (s : InstanceState) → due t program a (w.actors a).thread ≡ Some (i, q)
      → instance_part t program i (w.instances i) a q (w.actors a).last ≡ Some (e, s) → next_stamp t program w a ≡ Some e.stamp
  stamp_is w a i q e s is_due gives = rw (is_due, gives) refl

  pub above : (n : ℕ) → nat_le n program.steps ≡ false → program.steps < n
  above n h = grind (arith, nat_tests)

  not_within : (n : ℕ) → program.steps < n → nat_le n program.steps ≡ false
  not_within n h = grind (arith, nat_tests)

  no_due : (w : World) → list_any (can_step t program w) (actors t program) ≡ false → HasNoDueStep t program w
  no_due w none a i q s e is_due gives =
      let g = given t program i a (w.actors a).last (w.instances i) s q e gives in
      let low = fit_actor a i e.what g.fit in
      let cannot : can_step t program w a ≡ false = none_from (can_step t program w) 0 (actor_count t program) a zero-le (omega (arith, low)) none in
      let seen : can_step t program w a ≡ nat_le e.stamp program.steps = ap (λ (o : Option ℕ). unwrap_or (option_map (λ n. nat_le n program.steps) o) false) (stamp_is w a i q e s is_due gives) in
      above e.stamp (sym seen ∙ cannot)

  -- the step behind a next stamp
  pub record NextStep (w : World) (a n : ℕ) : Type 0 where
    pub instance : ℕ
    pub ask : Ask
    pub entry : Entry
    pub state : InstanceState
    pub due : due t program a (w.actors a).thread ≡ Some (instance, ask)
    pub gives : instance_part t program instance (w.instances instance) a ask (w.actors a).last ≡ Some (entry, state)
    pub stamp : entry.stamp ≡ n

  next_step : (w : World) (a n : ℕ) → next_stamp t program w a ≡ Some n → NextStep w a n
  next_step w a n h =
      let made = mapped_some (λ (r : Entry × InstanceState). r.0.stamp) (option_and_then (λ (d : ℕ × Ask). instance_part t program d.0 (w.instances d.0) a d.1 (w.actors a).last) (due t program a (w.actors a).thread)) n h in
      let asked = then_some (λ (d : ℕ × Ask). instance_part t program d.0 (w.instances d.0) a d.1 (w.actors a).last) (due t program a (w.actors a).thread) made.0 made.1 in
      record { instance = asked.0.0; ask = asked.0.1; entry = made.0.0; state = made.0.1; due = asked.1; gives = asked.2; stamp = made.2 }

  can_none : (w : World) → HasNoDueStep t program w → (a : ℕ) → can_step t program w a ≡ false
  can_none w none a = go (next_stamp t program w a) refl
    where
      go : (o : Option ℕ) → next_stamp t program w a ≡ o → unwrap_or (option_map (λ n. nat_le n program.steps) o) false ≡ false
      go None is = refl
      go (Some n) is =
          let s = next_step w a n is in
          rw (← s.stamp) (not_within s.entry.stamp (none a s.instance s.ask s.state s.entry s.due s.gives))

  pub ended_dues : (es : List Entry) (w : World) → RunTo t program es w → IsEnded t program es ↔ HasNoDueStep t program w
  ended_dues es w h =
      let stuck = ended_stuck (core t program) es w h in
      let dues = stuck_dues (core t program) (core_taking t program) w in
      ((λ ended. dues.0 (stuck.0 ended)), (λ none. stuck.1 (dues.1 none)))

  none_due : (es : List Entry) (f : Finish) (h : EndsAs t program es f) → HasNoDueStep t program h.0
  none_due es f h = no_due h.0 (ending (list_any (can_step t program h.0) (actors t program)) _ _ _ f h.2)

  pub ends_ended : (es : List Entry) (f : Finish) → EndsAs t program es f → IsEnded t program es
  ends_ended es f h = (ended_dues es h.0 h.1).1 (none_due es f h)

  pub ended_ends : (es : List Entry) → IsRun t program es → IsEnded t program es → (f : Finish) × EndsAs t program es f
  ended_ends es run ended =
      let none = none_passes (can_step t program run.0) (actors t program) (can_none run.0 ((ended_dues es run.0 run.1).0 ended)) in
      let f : Finish = cond (list_any (λ e. is_asserted e.what) es) Asserted (cond (list_any (λ a. is_some (next_stamp t program run.0 a)) (actors t program)) Spent (cond (is_complete t program run.0) Complete Stuck)) in
      let is : finish t program es run.0 ≡ Some f = rw none refl in
      (f, (run.0, run.1, is))

  pub spent_limit : 0 < program.steps → (es : List Entry) → EndsAs t program es Spent → HasStamp program.steps es
  spent_limit positive es h =
      let some = any_is (λ a. is_some (next_stamp t program h.0 a)) (actors t program) (spent_above _ _ _ (is_complete t program h.0) h.2) in
      let n = some_of (next_stamp t program h.0 some.0) some.1 in
      let s = next_step h.0 some.0 n.0 n.1 in
      spent_stamp (core t program) (core_laws t program) es h.0 h.1 positive some.0 s.instance s.ask s.state s.entry s.gives
      (none_due es Spent h some.0 s.instance s.ask s.state s.entry s.due s.gives)
