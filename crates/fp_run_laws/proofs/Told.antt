-- The frames of a told trace suit.
use Rattle.std.proofs.Common.{◌≡◌, ◌<◌, ◌↔◌, ℕ, ◌⊎◌, inl, inr, Bool, true, false, cond, ◌&&◌, ◌-◌, nat_lt, List, [], ◌∷◌, ◌++◌, map, length, Option, Some, None, option_map, is_some, is_none, refl, sym, ap, ◌∙◌, subst, slice_get, arith}
use Rattle.std.proofs.lemmas.Bool.Decides.{nat_tests}
use Rattle.fp_base.proofs.Options.{mapped_some, no_some}
use Rattle.fp_base.proofs.Lists.{all_get, get_below, told_within}
use Rattle.fp_events.specs.SystemRun.{InTurn, ActorStep, Told}
use Rattle.fp_base.proofs.Bools.{both}
use Rattle.fp_tables.specs.Arguments.{nothing_bound}
use Rattle.fp_tables.specs.Lookup.{Described}
use Rattle.fp_tables.specs.Programs.{caller_acts_suit}
use Rattle.fp_tables.specs.Sound.{IsSoundFor}
use Rattle.fp_tables.specs.SoundPrograms.{IsSoundProgram}
use Rattle.fp_tables.specs.declared.kind.Kind.{Kind}
use Rattle.fp_tables.specs.declared.program.Caller.{Caller}
use Rattle.fp_tables.specs.declared.program.Program.{Program}
use Rattle.fp_tables.specs.declared.program.Spot.TheVariants as spot
use Rattle.fp_events.specs.Actor.{ActorState, Thread, Bindings, Action, act, Opened, own, arrived, taken as taken_frame, Frame, opened_actor, first_frames}
use Rattle.fp_events.specs.Due.{first_action, through, due_in, due, due_of}
use Rattle.fp_events.specs.Ends.{is_asserted, is_own, is_through}
use Rattle.fp_events.specs.Fits.{actor_count, ask_fits, what_fits, fits}
use Rattle.fp_tables.specs.Acts.{is_placed}
use Rattle.fp_events.specs.Follows.{follows}
use Rattle.fp_events.specs.Lookup.{callers, actives, home}
use Rattle.fp_events.specs.Step.{core}
use Rattle.fp_events.specs.declared.event.Arrival.{Arrival}
use Rattle.fp_events.specs.declared.event.Ask.{Ask}
use Rattle.fp_events.specs.declared.event.Ask.TheVariants as ask
use Rattle.fp_events.specs.declared.event.Entry.{Entry}
use Rattle.fp_events.specs.declared.event.What.TheVariants as what
use Rattle.fp_events.proofs.StepLaws.{Taken, taken}
use Rattle.fp_events.proofs.Halting.{follows_halted}
use Rattle.fp_run_laws.specs.Notes.{note_fits}
use Rattle.fp_run_laws.specs.Suits.{AllSuit, results_by, results_from, returns_fit, asserted_last, ends_asserted}
use Rattle.fp_run_laws.proofs.Scopes.{nothing_suits}
use Rattle.fp_run_laws.proofs.Asks.{never}
use Rattle.fp_run_laws.proofs.Handling.{acts_of_caller}
use Rattle.fp_run_laws.proofs.TypingDues.{due_fine, none_due}
use Rattle.fp_run_laws.proofs.Keeping.{keeps, returns}

module _ (t : Described) (program : Program) (sound : IsSoundFor t.model (Some t.topology)) (good : IsSoundProgram t program) where
  -- ---- the opening

  past_end : (xs : List Caller) (a : ℕ) → slice_get xs a ≡ None → nat_lt a (length xs) ≡ false
  past_end xs a h = go (nat_lt a (length xs)) refl
    where
      go : (b : Bool) → nat_lt a (length xs) ≡ b → b ≡ false
      go false e = refl
      go true e = absurd (none_there (slice_get xs a) h (get_below xs a e))
        where
          none_there : (o : Option Caller) → o ≡ None → is_some o ≡ true → ⊥
          none_there None e h = cc
          none_there (Some c) e h = cc

  pub opening_suits : (a : ℕ) → AllSuit t program [] a (first_frames program a)
  opening_suits a = go (slice_get program.callers a) refl
    where
      go : (o : Option Caller) → slice_get program.callers a ≡ o → AllSuit t program [] a (first_frames program a)
      go None is = rw is (past_end program.callers a is, refl)
      go (Some c) is =
          rw is (
            None,
            (
              record {
                place = spot.Command 0;
                scope = nothing_bound;
                returns = tt;
                actions = acts_of_caller t program nothing_bound c.acts (all_get (λ (c : Caller). caller_acts_suit t c.acts) program.callers a c good.callers_suit is);
                bound = nothing_suits t.model.types [];
              },
              tt,
            ),
            (told_within program.callers a c is, refl, refl),
          )

  -- ---- steps

  pub step_keeps : (ks : List (Option Kind)) (a : ℕ) (x z : ActorState) (e : Entry) → AllSuit t program ks a x.thread.frames → Taken t program a x e z → AllSuit t program (results_by t e.instance ks e.what) a z.thread.frames
  unfolding due fits
  step_keeps ks a x z e h k = go x.thread.halted k.due
    where
      go : (b : Bool) → cond b None (due_of t program a x.thread.frames) ≡ Some k.asked → AllSuit t program (results_by t e.instance ks e.what) a z.thread.frames
      go true due = no_some due
      go false due =
          let f = both (nat_lt a (actor_count t program) && is_placed t k.asked.0) (what_fits t program k.asked.0 e.what) k.fit in
          let g = both (nat_lt a (actor_count t program)) (is_placed t k.asked.0) f.0 in
          subst (λ (y : Thread). AllSuit t program (results_by t e.instance ks e.what) a y.frames) (sym k.thread)
          (subst (λ (n : ℕ). AllSuit t program (results_by t n ks e.what) a (follows t program k.asked.0 x.thread e.what).frames) (sym k.instance)
          (keeps t program sound good ks a k.asked.0 x.thread k.asked.1 e.what h due k.answer g.1 f.1))

  from_here : (ks : List (Option Kind)) (a : ℕ) (x z : ActorState) (es : List Entry) → AllSuit t program ks a x.thread.frames → InTurn (ActorStep (core t program) a) x es z
      → AllSuit t program (results_from t ks es) a z.thread.frames
  from_here ks a x z [] h told = subst (λ (y : ActorState). AllSuit t program ks a y.thread.frames) (sym told) h
  from_here ks a x z (e ∷ es) h told = from_here (results_by t e.instance ks e.what) a told.0 z es (step_keeps ks a x told.0 e h (taken t program a x told.0 e told.1.part)) told.2

  pub told_suits : (a : ℕ) (es : List Entry) (x : ActorState) → Told (core t program) a es x → AllSuit t program (results_from t [] es) a x.thread.frames
  told_suits a es x told = from_here [] a (record { thread = opened_actor program a; last = 0 }) x es (opening_suits a) told

  -- ---- returned values

  pub step_returns : (ks : List (Option Kind)) (a : ℕ) (x z : ActorState) (e : Entry) → AllSuit t program ks a x.thread.frames → Taken t program a x e z → returns_fit t ks e.what ≡ true
  unfolding due
  step_returns ks a x z e h k = go x.thread.halted k.due
    where
      go : (b : Bool) → cond b None (due_of t program a x.thread.frames) ≡ Some k.asked → returns_fit t ks e.what ≡ true
      go true due = no_some due
      go false due = returns t program sound good ks a k.asked.0 x.thread.frames k.asked.1 e.what h due k.answer

  returns_from : (ks : List (Option Kind)) (a : ℕ) (x z : ActorState) (before rest : List Entry) (e : Entry) → AllSuit t program ks a x.thread.frames → InTurn (ActorStep (core t program) a) x (before ++ e ∷ rest) z
      → returns_fit t (results_from t ks before) e.what ≡ true
  returns_from ks a x z [] rest e h told = step_returns ks a x told.0 e h (taken t program a x told.0 e told.1.part)
  returns_from ks a x z (b ∷ before) rest e h told =
      returns_from (results_by t b.instance ks b.what) a told.0 z before rest e (step_keeps ks a x told.0 b h (taken t program a x told.0 b told.1.part)) told.2

  pub told_returns : (a : ℕ) (es : List Entry) (x : ActorState) → Told (core t program) a es x → (before rest : List Entry) (e : Entry) → es ≡ before ++ e ∷ rest → returns_fit t (results_from t [] before) e.what ≡ true
  told_returns a es x told before rest e is =
      returns_from [] a (record { thread = opened_actor program a; last = 0 }) x before rest e (opening_suits a) (subst (λ (l : List Entry). Told (core t program) a l x) is told)

  -- ---- who has something due

  actor_of_step : (a : ℕ) (x z : ActorState) (e : Entry) → Taken t program a x e z → nat_lt a (actor_count t program) ≡ true
  unfolding fits
  actor_of_step a x z e k =
      (both (nat_lt a (actor_count t program)) (is_placed t k.asked.0) (both (nat_lt a (actor_count t program) && is_placed t k.asked.0) (what_fits t program k.asked.0 e.what) k.fit).0).0

  home_counted : (a i : ℕ) → home t program a ≡ Some i → nat_lt a (actor_count t program) ≡ true
  home_counted a i h = go (nat_lt a (callers program)) refl h
    where
      go : (b : Bool) → nat_lt a (callers program) ≡ b → cond b None (slice_get (actives t) (a - callers program)) ≡ Some i → nat_lt a (actor_count t program) ≡ true
      go true e h = no_some h
      go false e h = let r : nat_lt (a - callers program) (length (actives t)) ≡ true = told_within (actives t) (a - callers program) i h in grind (arith, nat_tests)

  due_at_once : (a : ℕ) (d : ℕ × Ask) → due_of t program a (first_frames program a) ≡ Some d → nat_lt a (actor_count t program) ≡ true
  due_at_once a d h = go (slice_get program.callers a) refl
    where
      go : (o : Option Caller) → slice_get program.callers a ≡ o → nat_lt a (actor_count t program) ≡ true
      go None is =
          let e : due_of t program a [] ≡ Some d = ap (λ (o : Option Caller). due_of t program a (first_frames_of o)) (sym is) ∙ h in
          let i = mapped_some {B = ℕ × Ask} (λ i. (i, ask.Take)) (home t program a) d e in
          home_counted a i.0 i.1
        where
          first_frames_of : Option Caller → List Frame
          first_frames_of None = []
          first_frames_of (Some c) = record { instance = 0; doing = record { actions = map act c.acts; bound = [] } ∷ []; opened = own } ∷ []
      go (Some c) is = let r : nat_lt a (callers program) ≡ true = told_within program.callers a c is in grind (arith, nat_tests)

  -- an actor that has something due is one of the program's
  told_counted : (a : ℕ) (es : List Entry) (x : ActorState) (d : ℕ × Ask) → Told (core t program) a es x → due t program a x.thread ≡ Some d → nat_lt a (actor_count t program) ≡ true
  unfolding due
  told_counted a [] x d told h = due_at_once a d (ap (λ (y : ActorState). due t program a y.thread) (sym told) ∙ h)
  told_counted a (e ∷ es) x d told h = actor_of_step a (record { thread = opened_actor program a; last = 0 }) told.0 e (taken t program a (record { thread = opened_actor program a; last = 0 }) told.0 e told.1.part)

  pub told_due : (a : ℕ) (es : List Entry) (x : ActorState) → Told (core t program) a es x → (i : ℕ) (q : Ask) → due t program a x.thread ≡ Some (i, q)
      → (a < actor_count t program) × (is_placed t i ≡ true) × (ask_fits t program i q ≡ true)
  unfolding due
  told_due a es x told i q h =
      let r : nat_lt a (actor_count t program) ≡ true = told_counted a es x (i, q) told h in
      go x.thread.halted h (grind (arith, nat_tests))
    where
      go : (b : Bool) → cond b None (due_of t program a x.thread.frames) ≡ Some (i, q) → a < actor_count t program → (a < actor_count t program) × (is_placed t i ≡ true) × (ask_fits t program i q ≡ true)
      go true e r = no_some e
      go false e r = let f = due_fine t program sound (results_from t [] es) a x.thread.frames (i, q) (told_suits a es x told) e in (r, f.0, f.1)

  -- the note of an arrival that is due fits
  pub noted : (ks : List (Option Kind)) (a : ℕ) (x : Thread) (i : ℕ) (r : Arrival) → AllSuit t program ks a x.frames → due t program a x ≡ Some (i, ask.Arrive r) → note_fits t.model r.origin ≡ true
  unfolding due
  noted ks a x i r h is = go x.halted is
    where
      go : (b : Bool) → cond b None (due_of t program a x.frames) ≡ Some (i, ask.Arrive r) → note_fits t.model r.origin ≡ true
      go true e = no_some e
      go false e = (due_fine t program sound ks a x.frames (i, ask.Arrive r) h e).2

  pub told_notes : (a : ℕ) (es : List Entry) (x : ActorState) → Told (core t program) a es x → (i : ℕ) (r : Arrival) → due t program a x.thread ≡ Some (i, ask.Arrive r) → note_fits t.model r.origin ≡ true
  told_notes a es x told i r h = noted (results_from t [] es) a x.thread i r (told_suits a es x told) h

  -- ---- where nothing is due

  either : (b : Bool) → cond {A = Option (ℕ × Ask)} b None None ≡ None
  either true = refl
  either false = refl

  none_of : (a : ℕ) (f : Frame) → is_through (f ∷ []) ≡ true → due_of t program a (f ∷ []) ≡ None
  none_of a f h = go f.opened refl (first_action f.doing) refl
    where
      go : (o : Opened) → f.opened ≡ o → (first : Option (Action × Bindings)) → first_action f.doing ≡ first → due_in t program f (first_action f.doing) ≡ None
      go own e None is = ap (λ (x : Option (Action × Bindings)). due_in t program f x) is ∙ ap (λ (o : Opened). through t program o f.instance) e
      go own e (Some x) is = absurd (never (ap is_none (sym is) ∙ (both (is_own f.opened) (is_none (first_action f.doing)) h).1))
      go (arrived default name) e first is = absurd (never (ap is_own (sym e) ∙ (both (is_own f.opened) (is_none (first_action f.doing)) h).0))
      go taken_frame e first is = absurd (never (ap is_own (sym e) ∙ (both (is_own f.opened) (is_none (first_action f.doing)) h).0))

  nothing_left : (a : ℕ) (fs : List Frame) → nat_lt a (callers program) ≡ true → is_through fs ≡ true → due_of t program a fs ≡ None
  nothing_left a [] here h = ap (λ (b : Bool). option_map {U = ℕ × Ask} (λ i. (i, ask.Take)) (cond b None (slice_get (actives t) (a - callers program)))) here
  nothing_left a (f ∷ []) here h = none_of a f h
  nothing_left a (f ∷ g ∷ fs) here h = absurd (cc)

  pub told_none : (a : ℕ) (es : List Entry) (x : ActorState) → a < actor_count t program → Told (core t program) a es x
      → (due t program a x.thread ≡ None) ↔ ((x.thread.halted ≡ true) ⊎ ((a < callers program) × (is_through x.thread.frames ≡ true)))
  unfolding due
  told_none a es x here told = (go x.thread.halted refl, back)
    where
      go : (b : Bool) → x.thread.halted ≡ b → cond b None (due_of t program a x.thread.frames) ≡ None → (x.thread.halted ≡ true) ⊎ ((a < callers program) × (is_through x.thread.frames ≡ true))
      go true e h = inl e
      go false e h =
          let r : nat_lt a (actor_count t program) ≡ true = grind (arith, nat_tests) in
          let n = none_due t program sound (results_from t [] es) a x.thread.frames r (told_suits a es x told) h in
          let m : nat_lt a (callers program) ≡ true = n.1 in
          let l : a < callers program = grind (arith, nat_tests) in
          inr (l, n.0)

      back : (x.thread.halted ≡ true) ⊎ ((a < callers program) × (is_through x.thread.frames ≡ true)) → due t program a x.thread ≡ None
      back (inl h) = ap (λ (b : Bool). cond b None (due_of t program a x.thread.frames)) h
      back (inr h) =
          let l : a < callers program = h.0 in
          let r : nat_lt a (callers program) ≡ true = grind (arith, nat_tests) in
          ap (λ (o : Option (ℕ × Ask)). cond x.thread.halted None o) (nothing_left a x.thread.frames r h.1) ∙ either x.thread.halted

-- ---- who has halted

module _ (t : Described) (program : Program) where
  step_halts : (a : ℕ) (x z : ActorState) (e : Entry) → Taken t program a x e z → z.thread.halted ≡ is_asserted e.what
  unfolding due
  step_halts a x z e k = go x.thread.halted refl k.due
    where
      go : (b : Bool) → x.thread.halted ≡ b → cond b None (due_of t program a x.thread.frames) ≡ Some k.asked → z.thread.halted ≡ is_asserted e.what
      go true is due = no_some due
      go false is due = ap (λ (y : Thread). y.halted) k.thread ∙ follows_halted t program k.asked.0 x.thread e.what is

  halts_from : (a : ℕ) (x z : ActorState) (es : List Entry) → InTurn (ActorStep (core t program) a) x es z → z.thread.halted ≡ asserted_last x.thread.halted es
  halts_from a x z [] told = ap (λ (y : ActorState). y.thread.halted) told
  halts_from a x z (e ∷ es) told =
      halts_from a told.0 z es told.2 ∙ ap (λ (b : Bool). asserted_last b es) (step_halts a x told.0 e (taken t program a x told.0 e told.1.part))

  pub told_halts : (a : ℕ) (es : List Entry) (x : ActorState) → Told (core t program) a es x → x.thread.halted ≡ ends_asserted es
  told_halts a es x told = halts_from a (record { thread = opened_actor program a; last = 0 }) x es told
