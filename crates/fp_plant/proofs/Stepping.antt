-- A step, from what comes next of the hand's actor.
use Rattle.std.proofs.Common.{◌≡◌, ◌<◌, ℕ, Bool, true, false, List, map, length, slice_get, get_or, Option, Some, None, option_map, refl, sym, ap, ap₂, ◌∙◌, subst}
use Rattle.std.proofs.lemmas.Option.{slice_get-map, slice_get-get_or}
use Rattle.fp_base.proofs.Options.{same_some}
use Rattle.fp_events.specs.SystemRun.{Told}
use Rattle.fp_tables.specs.Acts.{is_placed}
use Rattle.fp_tables.specs.Lookup.{Described, placed}
use Rattle.fp_tables.specs.Sound.{IsSoundFor}
use Rattle.fp_tables.specs.SoundPrograms.{IsSoundProgram}
use Rattle.fp_tables.specs.declared.program.Program.{Program}
use Rattle.fp_events.specs.declared.event.Ask.{Ask}
use Rattle.fp_events.specs.declared.event.Entry.{Entry}
use Rattle.fp_events.specs.Actor.{ActorState}
use Rattle.fp_events.specs.Due.{due}
use Rattle.fp_events.specs.Fits.{actor_count, ask_fits}
use Rattle.fp_events.specs.Step.{core}
use Rattle.fp_actor.specs.Acting.{Acting, due_of_actor, IsSameActor, IsToldOf}
use Rattle.fp_actor.specs.Next.{next_of}
use Rattle.fp_actor.specs.declared.actor.Next.{Next}
use Rattle.fp_actor.specs.declared.actor.Next.TheVariants as next
use Rattle.fp_gate.specs.declared.lock.TicketLock.{TicketLock}
use Rattle.fp_gate.specs.Locks.{LockId, id_of}
use Rattle.fp_plant.specs.declared.held.CellName.{CellName}
use Rattle.fp_plant.specs.declared.plant.Stepped.{Stepped}
use Rattle.fp_plant.specs.declared.plant.Stepped.TheVariants.{Took, NotYet, AtLimit, AtEnd, Halted}
use Rattle.fp_plant.specs.Hands.{IsHand}
use Rattle.fp_plant.specs.Planted.{Passing, Handed, Planted, Gives, Met, IsUntouched, StepAnswers}

-- ---- room for an entry changes nothing that is said of a step

abbrev pub with_room : Handed → Bool → Handed
with_room h room = record { actor = record h.actor { has_room = room }; passes = h.passes }

abbrev the_hand : Acting → List Passing → Handed
the_hand a ps = record { actor = a; passes = ps }

module _ (h new : Handed) (room : Bool) where
  abbrev met_too : Met (with_room h room) new → Met h new
  met_too m = record {
    instance = m.instance;
    place = m.place;
    ask = m.ask;
    before = m.before;
    after = m.after;
    state = m.state;
    due = m.due;
    there = m.there;
    was = m.was;
    is = m.is;
    others = m.others;
    turns = m.turns;
    saw = m.saw;
  }

  untouched_too : IsUntouched (with_room h room) new → IsUntouched h new
  untouched_too s = record {
    actor = record { tables = s.actor.tables; program = s.actor.program; number = s.actor.number };
    state = s.state;
    trace = s.trace;
    lefts = s.lefts;
  }

  answers_too : (r : Stepped) → StepAnswers (with_room h room) r new → StepAnswers h r new
  unfolding StepAnswers
  answers_too Took a = (
    met_too a.0,
    record {
      entry = a.1.entry;
      leaves = a.1.leaves;
      part = a.1.part;
      within = a.1.within;
      accepted = a.1.accepted;
      trace = a.1.trace;
      actor = record { tables = a.1.actor.tables; program = a.1.actor.program; number = a.1.actor.number };
      left = a.1.left;
    },
  )
  answers_too (NotYet why) a = (met_too a.0, a.1, a.2, untouched_too a.3)
  answers_too AtLimit a = (met_too a.0, record { entry = a.1.entry; leaves = a.1.leaves; part = a.1.part; above = a.1.above }, untouched_too a.2)
  answers_too AtEnd a = (a.0, a.1, untouched_too a.2)
  answers_too Halted a = (a.0, untouched_too a.1)

pub room_hand : (h : Handed) (a : Acting) → a ≡ record h.actor { has_room = a.has_room } → IsHand h → IsHand (record { actor = a; passes = h.passes })
room_hand h a is k = subst (λ (z : Acting). IsHand (record { actor = z; passes = h.passes })) (sym is) (record {
  told = k.told;
  count = k.count;
  own = λ j i q at its. let o = k.own j i q at its in record { number = o.number; made = o.made; name = o.name; left = o.left };
})

-- the hand before room was made, and after it
module _ (old mid : Handed) (actor : mid.actor ≡ record old.actor { has_room = mid.actor.has_room }) (passes : mid.passes ≡ old.passes) where
  mid_is : mid ≡ with_room old mid.actor.has_room
  mid_is = ap₂ the_hand actor passes

  pub answers_before : (r : Stepped) (new : Handed) → StepAnswers mid r new → StepAnswers old r new
  answers_before r new a = answers_too old new mid.actor.has_room r (subst (λ (z : Handed). StepAnswers z r new) mid_is a)

  pub untouched_before : (new : Handed) → IsUntouched mid new → IsUntouched old new
  untouched_before new s = untouched_too old new mid.actor.has_room (subst (λ (z : Handed). IsUntouched z new) mid_is s)

  pub room_untouched : IsUntouched old mid
  room_untouched = untouched_before mid (record { actor = record { tables = refl; program = refl; number = refl }; state = refl; trace = refl; lefts = refl })

  pub room_gives : (w : Planted) → Gives w old → Gives w mid
  room_gives w g = record {
    tables = ap (λ (a : Acting). a.tables) actor ∙ g.tables;
    program = ap (λ (a : Acting). a.program) actor ∙ g.program;
    locks = ap (map (λ (q : Passing). q.lock)) passes ∙ g.locks;
  }

  pub room_number : mid.actor.number ≡ old.actor.number
  room_number = ap (λ (a : Acting). a.number) actor

-- ---- what comes next

ends_at : (b : Bool) (d : Option (ℕ × Ask)) → ◌≡◌ {A = Next} next.AtEnd (next_of b d) → (d ≡ None) × (b ≡ false)
ends_at true d h = absurd (cc)
ends_at false None h = (refl, refl)
ends_at false (Some p) h = absurd (cc)

halts_at : (b : Bool) (d : Option (ℕ × Ask)) → ◌≡◌ {A = Next} next.Halted (next_of b d) → b ≡ true
halts_at true d h = refl
halts_at false None h = absurd (cc)
halts_at false (Some p) h = absurd (cc)

asks_at : (b : Bool) (d : Option (ℕ × Ask)) (i : ℕ) (q : Ask) → ◌≡◌ {A = Next} (next.Ask i q) (next_of b d) → d ≡ Some (i, q)
asks_at true d i q h = absurd (cc)
asks_at false None i q h = absurd (cc)
asks_at false (Some p) i q h =
    let i_is : p.0 ≡ i = cc in
    let q_is : p.1 ≡ q = cc in
    ap₂ (λ (n : ℕ) (x : Ask). Some (n, x)) i_is q_is

module _ (h : Handed) where
  itself : IsUntouched h h
  itself = record { actor = record { tables = refl; program = refl; number = refl }; state = refl; trace = refl; lefts = refl }

  pub at_end : (n : Next) → n ≡ next.AtEnd → n ≡ next_of h.actor.state.thread.halted (due_of_actor h.actor) → StepAnswers h AtEnd h
  unfolding StepAnswers
  at_end n is of = let e = ends_at h.actor.state.thread.halted (due_of_actor h.actor) (sym is ∙ of) in (e.0, e.1, itself)

  pub halted : (n : Next) → n ≡ next.Halted → n ≡ next_of h.actor.state.thread.halted (due_of_actor h.actor) → StepAnswers h Halted h
  unfolding StepAnswers
  halted n is of = (halts_at h.actor.state.thread.halted (due_of_actor h.actor) (sym is ∙ of), itself)

  pub asked : (n : Next) (i : ℕ) (q : Ask) → n ≡ next.Ask i q → n ≡ next_of h.actor.state.thread.halted (due_of_actor h.actor) → due_of_actor h.actor ≡ Some (i, q)
  asked n i q is of = asks_at h.actor.state.thread.halted (due_of_actor h.actor) i q (sym is ∙ of)

-- ---- what the law on due asks says of a hand of the plant

-- what is due after a told trace of sound tables and a sound program is due of an actor that is there, goes to an instance of the topology, and can be asked there
abbrev pub DueFits : Type 0
DueFits = (t : Described) (p : Program) → IsSoundFor t.model (Some t.topology) → IsSoundProgram t p → (a : ℕ) (es : List Entry) (x : ActorState) → Told (core t p) a es x
    → (i : ℕ) (q : Ask) → due t p a x.thread ≡ Some (i, q) → (a < actor_count t p) × (is_placed t i ≡ true) × (ask_fits t p i q ≡ true)

module _ (w : Planted) (h : Handed) (gives : Gives w h) where
  pub its_tables_sound : IsSoundFor w.tables.model (Some w.tables.topology) → IsSoundFor h.actor.tables.model (Some h.actor.tables.topology)
  its_tables_sound sound = subst (λ (t : Described). IsSoundFor t.model (Some t.topology)) (sym gives.tables) sound

  its_program_sound : IsSoundProgram w.tables w.program → IsSoundProgram h.actor.tables h.actor.program
  its_program_sound good =
      subst (λ (t : Described). IsSoundProgram t h.actor.program) (sym gives.tables) (subst (λ (p : Program). IsSoundProgram w.tables p) (sym gives.program) good)

  pub due_fits : DueFits → IsSoundFor w.tables.model (Some w.tables.topology) → IsSoundProgram w.tables w.program → IsToldOf h.actor → (i : ℕ) (q : Ask)
      → due_of_actor h.actor ≡ Some (i, q)
      → (h.actor.number < actor_count h.actor.tables h.actor.program) × (is_placed h.actor.tables i ≡ true) × (ask_fits h.actor.tables h.actor.program i q ≡ true)
  due_fits law sound good told i q is_due =
      law h.actor.tables h.actor.program (its_tables_sound sound) (its_program_sound good) h.actor.number h.actor.trace h.actor.state told i q is_due

  pub placed_too : (i : ℕ) → is_placed h.actor.tables i ≡ true → is_placed w.tables i ≡ true
  placed_too i is = subst (λ (t : Described). is_placed t i ≡ true) gives.tables is

  pub there_too : (k i : ℕ) → slice_get (placed w.tables) k ≡ Some i → slice_get (placed h.actor.tables) k ≡ Some i
  there_too k i at = subst (λ (t : Described). slice_get (placed t) k ≡ Some i) (sym gives.tables) at

  -- the pass at a place is of the lock there
  pub lock_there : {T : Type 0} (locks : List (TicketLock T CellName Entry)) (k : ℕ) (lock : TicketLock T CellName Entry) → w.locks ≡ map (λ l. id_of l) locks → k < length locks
      → lock ≡ get_or locks k lock → (q : Passing) → slice_get h.passes k ≡ Some q → q.lock ≡ id_of lock
  lock_there locks k lock are low is q at =
      let here : slice_get locks k ≡ Some lock = slice_get-get_or locks k lock low ∙ ap Some (sym is) in
      let its : slice_get (map (λ l. id_of l) locks) k ≡ Some (id_of lock) = slice_get-map (λ l. id_of l) locks k ∙ ap (option_map (λ l. id_of l)) here in
      let mine : slice_get (map (λ (x : Passing). x.lock) h.passes) k ≡ Some q.lock = slice_get-map (λ (x : Passing). x.lock) h.passes k ∙ ap (option_map (λ (x : Passing). x.lock)) at in
      same_some (sym mine ∙ (ap (λ (ls : List LockId). slice_get ls k) (gives.locks ∙ are) ∙ its))

-- a hand of the same actor, whose passes are of the same locks
pub still_gives : (w : Planted) (old new : Handed) → Gives w old → IsSameActor old.actor new.actor → map (λ (q : Passing). q.lock) new.passes ≡ map (λ (q : Passing). q.lock) old.passes
    → Gives w new
still_gives w old new g same locks = record { tables = same.tables ∙ g.tables; program = same.program ∙ g.program; locks = locks ∙ g.locks }
