-- The frames of an actor are the brackets that its entries open.
use Rattle.std.proofs.Common.{◌≡◌, ℕ, Bool, true, false, cond, ◌&&◌, not, Option, Some, None, option_map, List, [], ◌∷◌, ◌++◌, map, drop, refl, sym, ap, ◌∙◌, subst, slice_get, unwrap_or}
use Rattle.fp_tables.specs.Specials.{special_wire}
use Rattle.fp_base.proofs.Options.{mapped_some, same_some}
use Rattle.fp_base.specs.declared.value.Value.{Value}
use Rattle.fp_events.specs.SystemRun.{ActorStep, InTurn}
use Rattle.fp_events.proofs.Local.{actor_law}
use Rattle.fp_tables.specs.Lookup.{Described, wire_from}
use Rattle.fp_tables.specs.declared.component.Special.{Special}
use Rattle.fp_tables.specs.declared.component.Special.TheVariants as special
use Rattle.fp_tables.specs.declared.program.Act.{Act}
use Rattle.fp_tables.specs.declared.program.Caller.{Caller}
use Rattle.fp_tables.specs.declared.program.Program.{Program}
use Rattle.fp_tables.specs.declared.program.Verb.{Verb}
use Rattle.fp_tables.specs.declared.program.Verb.TheVariants as verb
use Rattle.fp_tables.specs.declared.topology.End.{End}
use Rattle.fp_events.specs.Actor.{ActorState, Thread, Bindings, Action, act, send, advance, Doing, Opened, own, arrived, taken as by_take, Frame, first_frames, opened_actor}
use Rattle.fp_events.specs.Answers.{answers}
use Rattle.fp_events.specs.Due.{first_action, values, first_value, sent_from, along, at_port, ends_with, asks_in, asks_out, asks, through, due_in, due_of, due}
use Rattle.fp_events.specs.Follows.{without_first, in_frame, bind, bound_below, closed, sends, sent_as, performed, bound_name, value_in, follows}
use Rattle.fp_events.specs.Frames.{opens, ends_a_frame, is_take, closes, open_after, open_from, open_frames, Pairs}
use Rattle.fp_events.specs.Lookup.{home}
use Rattle.fp_events.specs.Run.{World, RunTo, IsTold}
use Rattle.fp_events.specs.Step.{core}
use Rattle.fp_events.specs.declared.event.Ask.{Ask}
use Rattle.fp_events.specs.declared.event.Ask.TheVariants as ask
use Rattle.fp_events.specs.declared.event.Entry.{Entry}
use Rattle.fp_events.specs.declared.event.Fate.{Fate}
use Rattle.fp_events.specs.declared.event.Fate.TheVariants.{Sent}
use Rattle.fp_events.specs.declared.event.Origin.TheVariants.{Wire}
use Rattle.fp_events.specs.declared.event.Point.{Point}
use Rattle.fp_events.specs.declared.event.Point.TheVariants.{Command as OfCommand}
use Rattle.fp_events.specs.declared.event.What.{What}
use Rattle.fp_events.specs.declared.event.What.TheVariants as what
use Rattle.fp_events.proofs.StepLaws.{core_laws, Taken, taken}

-- ---- what ends a frame

-- an ask for the end of a frame is for one that was opened so, at its instance
abbrev pub LeftAt : Opened → ℕ → ℕ → Type 0
LeftAt (arrived default name) j i = j ≡ i
LeftAt _ j i = ⊥

abbrev pub DoneAt : Opened → ℕ → ℕ → Type 0
DoneAt by_take j i = j ≡ i
DoneAt _ j i = ⊥

abbrev pub EndsOf : Opened → ℕ → ℕ → Ask → Type 0
EndsOf o j i (ask.Leave v) = LeftAt o j i
EndsOf o j i ask.Done = DoneAt o j i
EndsOf o j i _ = Unit {0}

pub DueEnds : Opened → ℕ → Option (ℕ × Ask) → Type 0
DueEnds o j due = (i : ℕ) (q : Ask) → due ≡ Some (i, q) → EndsOf o j i q

due_none : (o : Opened) (j : ℕ) → DueEnds o j None
unfolding DueEnds
due_none o j i q h = absurd (cc)

due_some : (o : Opened) (j i : ℕ) (q : Ask) → EndsOf o j i q → DueEnds o j (Some (i, q))
unfolding DueEnds
due_some o j i q h k r is = subst (λ (d : ℕ × Ask). EndsOf o j d.0 d.1) (same_some is) h

module _ (t : Described) (program : Program) where
  along_ends : (o : Opened) (j : ℕ) (from : End) (at : End → Point) (vs : List Value) → DueEnds o j (along t program from at vs)
  along_ends o j from at vs = go (wire_from t from)
    where
      go : (to : Option End) → DueEnds o j (option_map (λ (e : End). (e.instance, ask.Arrive (record { point = at e; origin = Wire from None; with = vs }))) to)
      go None = due_none o j
      go (Some to) = due_some o j _ _ tt

  sent_ends : (o : Opened) (j : ℕ) (w : Option (End × End)) (note : List ℕ) → DueEnds o j (sent_from t program w note)
  sent_ends o j None note = due_none o j
  sent_ends o j (Some w) note = due_some o j _ _ tt

  -- ---- what an action asks

  acts_out : (j : ℕ) (x : Act) (vs : List Value) (v : Verb) → DueEnds own j (asks_out t program x vs v)
  acts_out j x vs verb.Call = due_some own j _ _ tt
  acts_out j x vs verb.Command = due_some own j _ _ tt
  acts_out j x vs _ = due_none own j

  ends_with_ends : (o : Opened) (j : ℕ) (v : Option Value) → DueEnds o j (ends_with t program o j v)
  ends_with_ends own j v = due_none own j
  ends_with_ends (arrived default name) j v = due_some (arrived default name) j _ _ refl
  ends_with_ends by_take j v = due_some by_take j _ _ refl

  acts_in : (o : Opened) (j : ℕ) (x : Act) (vs : List Value) (v : Verb) → DueEnds o j (asks_in t program o j x vs v)
  acts_in o j x vs verb.Call = along_ends o j (record { instance = j; port = x.subject.port; number = x.subject.number }) (at_port t program) vs
  acts_in o j x vs verb.Command = along_ends o j (record { instance = j; port = x.subject.port; number = x.subject.number }) (λ to. OfCommand x.name) vs
  acts_in o j x vs verb.Respond = sent_ends o j (special_wire t j special.CmdResp) (unwrap_or x.bind [])
  acts_in o j x vs verb.Post = due_some o j _ _ tt
  acts_in o j x vs verb.Signal = due_some o j _ _ tt
  acts_in o j x vs verb.Emit = due_some o j _ _ tt
  acts_in o j x vs verb.Write = due_some o j _ _ tt
  acts_in o j x vs verb.Read = due_some o j _ _ tt
  acts_in o j x vs verb.Dispatch = due_some o j _ _ tt
  acts_in o j x vs verb.Return = ends_with_ends o j (Some (first_value vs))

  acts : (o : Opened) (j : ℕ) (x : Act) (vs : List Value) → DueEnds o j (asks t program o j x vs)
  acts own j x vs = acts_out j x vs x.verb
  acts (arrived default name) j x vs = acts_in (arrived default name) j x vs x.verb
  acts by_take j x vs = acts_in by_take j x vs x.verb

  through_ends : (o : Opened) (j : ℕ) → DueEnds o j (through t program o j)
  through_ends own j = due_none own j
  through_ends (arrived default name) j = ends_with_ends (arrived default name) j default
  through_ends by_take j = ends_with_ends by_take j None

  -- an ask for the end of a frame is for the end of the innermost one
  pub frame_ends : (f : Frame) (first : Option (Action × Bindings)) → DueEnds f.opened f.instance (due_in t program f first)
  frame_ends f None = through_ends f.opened f.instance
  frame_ends f (Some (act x, bound)) = acts f.opened f.instance x (values bound x.with)
  frame_ends f (Some (send s note, bound)) = sent_ends f.opened f.instance (special_wire t f.instance s) note
  frame_ends f (Some (advance running signal v, bound)) = due_some f.opened f.instance _ _ tt

-- ---- frames beside the entries that opened them

-- how a frame is opened by an entry
abbrev pub opened_by : Opened → What → Bool
opened_by own w = false
opened_by (arrived default name) w = opens w && not (is_take w)
opened_by by_take w = opens w && is_take w

-- the entries whose frames are open, and the frames of their actor, whose own list is the last where it is a caller
abbrev pub Stack : List Entry → List Frame → Type 0
Stack [] [] = Unit {0}
Stack [] (f ∷ fs) = (f.opened ≡ own) × (fs ≡ [])
Stack (e ∷ es) [] = ⊥
Stack (e ∷ es) (f ∷ fs) = (f.instance ≡ e.instance) × (opened_by f.opened e.what ≡ true) × Stack es fs

in_frame_stack : (g : List Doing → List Doing) (es : List Entry) (fs : List Frame) → Stack es fs → Stack es (in_frame g fs)
in_frame_stack g [] [] h = tt
in_frame_stack g [] (f ∷ fs) h = h
in_frame_stack g (e ∷ es) [] h = h
in_frame_stack g (e ∷ es) (f ∷ fs) h = h

closed_stack : (v : Option Value) (e : Entry) (es : List Entry) (fs : List Frame) → Stack (e ∷ es) fs → Stack es (closed v fs)
closed_stack v e es [] h = absurd h
closed_stack v e es (f ∷ fs) h = go f.opened v
  where
    go : (o : Opened) (v : Option Value) → Stack es (bound_below o v fs)
    go own v = h.2
    go by_take v = h.2
    go (arrived default None) v = h.2
    go (arrived default (Some name)) None = h.2
    go (arrived default (Some name)) (Some v) = in_frame_stack (bind name v) es fs h.2

pub open_from-more : (opened es : List Entry) (e : Entry) → open_from opened (es ++ e ∷ []) ≡ open_after (open_from opened es) e
open_from-more opened [] e = refl
open_from-more opened (x ∷ es) e = open_from-more (open_after opened x) es e

-- ---- a step

-- the actions without their first
abbrev less : List Doing → List Doing
less old = [] ++ without_first old

no_end : (es : List Entry) (e : Entry) → ends_a_frame e.what ≡ false → Pairs es e
no_end [] e h = h
no_end (f ∷ fs) e h = λ k. absurd (cc)

module _ (t : Described) (program : Program) where
  -- an ask for an end is due only in the frame that an entry of its kind opened
  leave_pairs : (a i n b : ℕ) (u v : Option Value) (es : List Entry) (fs : List Frame) → Stack es fs → due_of t program a fs ≡ Some (i, ask.Leave u)
      → Pairs es (record { stamp = n; actor = b; instance = i; what = what.Leave v })
  unfolding DueEnds
  leave_pairs a i n b u v es [] h is =
      let m = mapped_some {B = ℕ × Ask} (λ k. (k, ask.Take)) (home t program a) (i, ask.Leave u) is in
      let no : ask.Take ≡ ask.Leave u = ap (λ (d : ℕ × Ask). d.1) m.2 in
      absurd (cc)
  leave_pairs a i n b u v [] (f ∷ fs) h is = absurd (subst (λ o. EndsOf o f.instance i (ask.Leave u)) h.0 (frame_ends t program f (first_action f.doing) i (ask.Leave u) is))
  leave_pairs a i n b u v (e ∷ es) (f ∷ fs) h is = λ k. go f.opened (frame_ends t program f (first_action f.doing) i (ask.Leave u) is) h.1
    where
      go : (o : Opened) → EndsOf o f.instance i (ask.Leave u) → opened_by o e.what ≡ true → (closes (what.Leave v) e.what ≡ true) × (e.instance ≡ i)
      go own end how = absurd end
      go (arrived default name) end how = (how, sym h.0 ∙ end)
      go by_take end how = absurd end

  done_pairs : (a i n b : ℕ) (es : List Entry) (fs : List Frame) → Stack es fs → due_of t program a fs ≡ Some (i, ask.Done)
      → Pairs es (record { stamp = n; actor = b; instance = i; what = what.Done })
  unfolding DueEnds
  done_pairs a i n b es [] h is =
      let m = mapped_some {B = ℕ × Ask} (λ k. (k, ask.Take)) (home t program a) (i, ask.Done) is in
      let no : ask.Take ≡ ask.Done = ap (λ (d : ℕ × Ask). d.1) m.2 in
      absurd (cc)
  done_pairs a i n b [] (f ∷ fs) h is = absurd (subst (λ o. EndsOf o f.instance i ask.Done) h.0 (frame_ends t program f (first_action f.doing) i ask.Done is))
  done_pairs a i n b (e ∷ es) (f ∷ fs) h is = λ k. go f.opened (frame_ends t program f (first_action f.doing) i ask.Done is) h.1
    where
      go : (o : Opened) → EndsOf o f.instance i ask.Done → opened_by o e.what ≡ true → (closes what.Done e.what ≡ true) × (e.instance ≡ i)
      go own end how = absurd end
      go (arrived default name) end how = absurd end
      go by_take end how = (how, sym h.0 ∙ end)

  answer_pairs : (a i n b : ℕ) (w : What) (q : Ask) (es : List Entry) (fs : List Frame) → answers t i w q ≡ true → Stack es fs → due_of t program a fs ≡ Some (i, q)
      → Pairs es (record { stamp = n; actor = b; instance = i; what = w })
  unfolding answers
  answer_pairs a i n b (what.Leave v) (ask.Leave u) es fs is h due = leave_pairs a i n b u v es fs h due
  answer_pairs a i n b (what.Leave v) _ es fs is h due = absurd (cc)
  answer_pairs a i n b what.Done ask.Done es fs is h due = done_pairs a i n b es fs h due
  answer_pairs a i n b what.Done _ es fs is h due = absurd (cc)
  answer_pairs a i n b _ q es fs is h due = no_end es _ refl

  sent_stack : (i : ℕ) (fate : Fate) (s : Special) (note : List ℕ) (es : List Entry) (fs : List Frame) → Stack es fs → Stack es (sent_as t program i fate s note fs)
  sent_stack i Sent s note es fs h = in_frame_stack (λ old. sends t program i ((s, note) ∷ []) ∷ [] ++ without_first old) es fs h
  sent_stack i _ s note es fs h = in_frame_stack less es fs h

  closing_stack : (v : Option Value) (es : List Entry) (e : Entry) (fs : List Frame) → ends_a_frame e.what ≡ true → Pairs es e → Stack es fs → Stack (drop 1 es) (closed v fs)
  closing_stack v [] e fs end pairs h = absurd (cc)
  closing_stack v (f ∷ es) e fs end pairs h = closed_stack v f es fs h

  follows_stack : (i n b : ℕ) (x : Thread) (w : What) (es : List Entry) → Pairs es (record { stamp = n; actor = b; instance = i; what = w }) → Stack es x.frames
      → Stack (open_after es (record { stamp = n; actor = b; instance = i; what = w })) (follows t program i x w).frames
  unfolding follows
  follows_stack i n b x (what.Enter r) es p h = (refl, refl, in_frame_stack less es x.frames h)
  follows_stack i n b x (what.Guard r) es p h = (refl, refl, in_frame_stack less es x.frames h)
  follows_stack i n b x (what.Set r) es p h = (refl, refl, in_frame_stack less es x.frames h)
  follows_stack i n b x (what.Save r v) es p h = (refl, refl, in_frame_stack less es x.frames h)
  follows_stack i n b x (what.Hooked r) es p h = (refl, refl, in_frame_stack less es x.frames h)
  follows_stack i n b x (what.Take number point with) es p h = (refl, refl, in_frame_stack less es x.frames h)
  follows_stack i n b x (what.Put number r) es p h = in_frame_stack less es x.frames h
  follows_stack i n b x (what.Dropped r) es p h = in_frame_stack less es x.frames h
  follows_stack i n b x (what.Asserted r) es p h = h
  follows_stack i n b x (what.Leave v) es p h = closing_stack v es (record { stamp = n; actor = b; instance = i; what = what.Leave v }) x.frames refl p h
  follows_stack i n b x what.Done es p h = closing_stack None es (record { stamp = n; actor = b; instance = i; what = what.Done }) x.frames refl p h
  follows_stack i n b x what.Empty es p h = in_frame_stack less es x.frames h
  follows_stack i n b x (what.Emit event fate text) es p h = sent_stack i fate special.Event _ es x.frames h
  follows_stack i n b x (what.Write channel fate v) es p h = sent_stack i fate special.Tlm _ es x.frames h
  follows_stack i n b x (what.Read param v) es p h = in_frame_stack (λ old. bind (bound_name t program (first_action old)) v (without_first old)) es x.frames h
  follows_stack i n b x (what.Start running actions leaf) es p h = in_frame_stack (λ old. performed t program i running actions (value_in (first_action old)) ++ old) es x.frames h
  follows_stack i n b x (what.Move running signal actions leaf) es p h =
      in_frame_stack (λ old. performed t program i running actions (value_in (first_action old)) ++ without_first old) es x.frames h

  -- what a step of an actor says of its open frames
  pub step_pairs : (a : ℕ) (x z : ActorState) (e : Entry) (es : List Entry) → Taken t program a x e z → Stack es x.thread.frames
      → Pairs es e × Stack (open_after es e) z.thread.frames
  unfolding due
  step_pairs a x z e es k h = go x.thread.halted k.due
    where
      go : (b : Bool) → cond b None (due_of t program a x.thread.frames) ≡ Some k.asked → Pairs es e × Stack (open_after es e) z.thread.frames
      go true due = absurd (cc)
      go false due =
          let pairs : Pairs es (record { stamp = e.stamp; actor = e.actor; instance = k.asked.0; what = e.what }) =
          answer_pairs a k.asked.0 e.stamp e.actor e.what k.asked.1 es x.thread.frames k.answer h due in
          let stack = follows_stack k.asked.0 e.stamp e.actor x.thread e.what es pairs h in (
            subst (λ (n : ℕ). Pairs es (record { stamp = e.stamp; actor = e.actor; instance = n; what = e.what })) (sym k.instance) pairs,
            subst (λ (y : Thread). Stack (open_after es e) y.frames) (sym k.thread)
                (subst (λ (n : ℕ). Stack (open_after es (record { stamp = e.stamp; actor = e.actor; instance = n; what = e.what })) (follows t program k.asked.0 x.thread e.what).frames) (sym k.instance) stack),
          )

  -- ---- traces and runs

  pub opening_stack : (a : ℕ) → Stack [] (first_frames program a)
  opening_stack a = go (slice_get program.callers a)
    where
      frames_of : Option Caller → List Frame
      frames_of None = []
      frames_of (Some c) = record { instance = 0; doing = record { actions = map act c.acts; bound = [] } ∷ []; opened = own } ∷ []

      go : (o : Option Caller) → Stack [] (frames_of o)
      go None = tt
      go (Some c) = (refl, refl)

  pairs_from : (a : ℕ) (x z : ActorState) (opened before rest : List Entry) (e : Entry) → Stack opened x.thread.frames → InTurn (ActorStep (core t program) a) x (before ++ e ∷ rest) z
      → Pairs (open_from opened before) e
  pairs_from a x z opened [] rest e h told = (step_pairs a x told.0 e opened (taken t program a x told.0 e told.1.part) h).0
  pairs_from a x z opened (b ∷ before) rest e h told =
      pairs_from a told.0 z (open_after opened b) before rest e (step_pairs a x told.0 b opened (taken t program a x told.0 b told.1.part) h).1 told.2

  pub told_pairs : (a : ℕ) (es : List Entry) → IsTold t program a es → (before rest : List Entry) (e : Entry) → es ≡ before ++ e ∷ rest → Pairs (open_from [] before) e
  told_pairs a es told before rest e is =
      pairs_from a (record { thread = opened_actor program a; last = 0 }) told.0 [] before rest e (opening_stack a)
      (subst (λ (l : List Entry). InTurn (ActorStep (core t program) a) (record { thread = opened_actor program a; last = 0 }) l told.0) is told.1)

  pub run_pairs : (es : List Entry) (w : World) → RunTo t program es w → (before : List Entry) (e : Entry) (rest : List Entry) → es ≡ before ++ e ∷ rest → Pairs (open_frames e.actor before) e
  run_pairs =
      actor_law (core t program) (core_laws t program) (λ a es x. Stack (open_from [] es) x.thread.frames) (λ es e. Pairs (open_from [] es) e)
      (λ a. opening_stack a)
      (λ a es x z e holds step.
      subst (λ (opened : List Entry). Stack opened z.thread.frames) (sym (open_from-more [] es e)) (step_pairs a x z e (open_from [] es) (taken t program a x z e step.part) holds).1)
      (λ a es x z e holds step. (step_pairs a x z e (open_from [] es) (taken t program a x z e step.part) holds).0)
