-- A hand whose pass at one place had a turn.
use Rattle.std.proofs.Common.{◌≡◌, ◌≢◌, ◌≤◌, ◌<◌, ◌⊎◌, inl, inr, ℕ, zero, suc, ◌+◌, Bool, true, false, cond, not, ◌==◌, ◌||◌, eqb, eq-eqb, ne_eqb, List, [], ◌∷◌, ◌++◌, map, length, slice_get, slice_set, get_or, Option, Some, refl, sym, ap, ◌∙◌, subst, append-nil, arith}
use Rattle.std.specs.Prelude.{option_map}
use Rattle.std.specs.List.{list_any}
use Rattle.std.specs.Prelude.{All, Result, Ok, Err, OnErr}
use Rattle.std.proofs.Math.Seq.{map-set_same}
use Rattle.std.proofs.lemmas.Bool.Decides.{eqb_tells}
use Rattle.std.proofs.lemmas.List.{length-map, length-set, map-append, map-set}
use Rattle.std.proofs.lemmas.List.Elements.{filter-append}
use Rattle.std.proofs.lemmas.Option.{slice_get-get_or, slice_get-map, slice_get_within, get_or_from_slice_get}
use Rattle.fp_base.proofs.Bools.{both}
use Rattle.fp_base.proofs.Options.{same_some}
use Rattle.fp_base.proofs.Sameness.{nat_same}
use Rattle.fp_events.specs.SystemRun.{Kept}
use Rattle.fp_events.proofs.OfRun.{told_last}
use Rattle.fp_tables.specs.Lookup.{Described, placed}
use Rattle.fp_tables.specs.Names.{numbers_differ}
use Rattle.fp_tables.specs.declared.program.Program.{Program}
use Rattle.fp_events.specs.declared.event.Ask.{Ask}
use Rattle.fp_events.specs.declared.event.Entry.{Entry}
use Rattle.fp_events.specs.declared.event.Why.{Why}
use Rattle.fp_events.specs.Fits.{actor_count}
use Rattle.fp_events.specs.Instance.{InstanceState}
use Rattle.fp_events.specs.Step.{core, actor_part}
use Rattle.fp_events.proofs.StepLaws.{given, core_laws}
use Rattle.fp_actor.specs.Acting.{Acting, due_of_actor, AnswersDue, IsSameActor, IsToldOf}
use Rattle.fp_cell.specs.declared.cell.Reply.TheVariants as reply
use Rattle.fp_gate.specs.declared.booked.Booked.{Ghosts}
use Rattle.fp_gate.specs.declared.booked.Entry.{Entry as Left}
use Rattle.fp_gate.specs.declared.lock.Pass.{Pass}
use Rattle.fp_gate.specs.Locks.{IsIdle}
use Rattle.fp_gate.specs.Passes.{made_at}
use Rattle.fp_run_laws.specs.Seen.{seen_at, with_stamps}
use Rattle.fp_run_laws.proofs.Causes.{no_step}
use Rattle.fp_run_laws.proofs.Dues.{answers_it, is_above}
use Rattle.fp_run_laws.proofs.Timing.{with_before-push}
use Rattle.fp_plant.specs.declared.held.CellName.{CellName}
use Rattle.fp_plant.specs.declared.plant.Stepped.{Stepped}
use Rattle.fp_plant.specs.declared.plant.Stepped.TheVariants.{Took, NotYet, AtLimit}
use Rattle.fp_plant.specs.Hands.{passing, IsHand, IsOwn, HasTurned, Replies}
use Rattle.fp_plant.specs.Noted.{noted, items}
use Rattle.fp_plant.specs.Planted.{Passing, Handed, Met, IsUntouched, StepAnswers, lefts}
use Rattle.fp_plant.proofs.Dealing.{set_here, set_there, all_get, get_all}

-- ---- the instances of a sound topology stand at one place each

none_equal : (n : ℕ) (ns : List ℕ) (k : ℕ) → not (list_any (λ m. n == m) ns) ≡ true → slice_get ns k ≡ Some n → ⊥
none_equal n [] k out e = absurd (cc)
none_equal n (m ∷ ns) zero out e = go (n == m) (ap (λ x. n == x) (same_some e) ∙ nat_same.itself n) out
  where
    go : (b : Bool) → b ≡ true → not (b || list_any (λ k. n == k) ns) ≡ true → ⊥
    go true is h = cc
    go false is h = cc
none_equal n (m ∷ ns) (suc k) out e = go (n == m) out (λ h. none_equal n ns k h e)
  where
    go : (b : Bool) → not (b || list_any (λ k. n == k) ns) ≡ true → (not (list_any (λ k. n == k) ns) ≡ true → ⊥) → ⊥
    go true h again = cc
    go false h again = again h

pub one_place : (ns : List ℕ) (j k i : ℕ) → numbers_differ ns ≡ true → slice_get ns j ≡ Some i → slice_get ns k ≡ Some i → j ≡ k
one_place [] j k i differ at_j at_k = absurd (cc)
one_place (n ∷ ns) zero zero i differ at_j at_k = refl
one_place (n ∷ ns) zero (suc k) i differ at_j at_k =
    absurd (none_equal n ns k (both (not (list_any (λ m. n == m) ns)) (numbers_differ ns) differ).0 (at_k ∙ sym at_j))
one_place (n ∷ ns) (suc j) zero i differ at_j at_k =
    absurd (none_equal n ns j (both (not (list_any (λ m. n == m) ns)) (numbers_differ ns) differ).0 (at_j ∙ sym at_k))
one_place (n ∷ ns) (suc j) (suc k) i differ at_j at_k = ap suc (one_place ns j k i (both (not (list_any (λ m. n == m) ns)) (numbers_differ ns) differ).1 at_j at_k)

-- ---- what a pass left, by one entry more of the trace

seen_here : (i : ℕ) (ps : List (Entry × ℕ)) (p : Entry × ℕ) → p.0.instance ≡ i → seen_at i (ps ++ p ∷ []) ≡ seen_at i ps ++ p ∷ []
seen_here i ps p is =
    filter-append (λ (q : Entry × ℕ). eqb q.0.instance i) ps (p ∷ [])
    ∙ ap (λ (l : List (Entry × ℕ)). seen_at i ps ++ l) (ap (λ (b : Bool). cond b (p ∷ []) []) (eq-eqb p.0.instance i is))

seen_elsewhere : (i : ℕ) (ps : List (Entry × ℕ)) (p : Entry × ℕ) → p.0.instance ≢ i → seen_at i (ps ++ p ∷ []) ≡ seen_at i ps
seen_elsewhere i ps p ne =
    filter-append (λ (q : Entry × ℕ). eqb q.0.instance i) ps (p ∷ [])
    ∙ (ap (λ (l : List (Entry × ℕ)). seen_at i ps ++ l) (ap (λ (b : Bool). cond b (p ∷ []) []) (ne_eqb p.0.instance i ne)) ∙ append-nil (seen_at i ps))

module _ (a : Acting) (told : IsToldOf a) (e : Entry) (trace : List Entry) (more : trace ≡ a.trace ++ e ∷ []) where
  stamps_more : with_stamps trace ≡ with_stamps a.trace ++ (e, a.state.last) ∷ []
  stamps_more =
      ap with_stamps more
      ∙ (with_before-push (λ (d : Entry). d.stamp) 0 a.trace e
      ∙ ap (λ (n : ℕ). with_stamps a.trace ++ (e, n) ∷ []) (sym (told_last (core a.tables a.program) (core_laws a.tables a.program) a.number a.trace a.state told)))

  left_here : map noted (seen_at e.instance (with_stamps trace)) ≡ map noted (seen_at e.instance (with_stamps a.trace)) ++ noted (e, a.state.last) ∷ []
  left_here =
      ap (λ (ps : List (Entry × ℕ)). map noted (seen_at e.instance ps)) stamps_more
      ∙ (ap (map noted) (seen_here e.instance (with_stamps a.trace) (e, a.state.last) refl) ∙ map-append noted (seen_at e.instance (with_stamps a.trace)) ((e, a.state.last) ∷ []))

  left_elsewhere : (i : ℕ) → e.instance ≢ i → map noted (seen_at i (with_stamps trace)) ≡ map noted (seen_at i (with_stamps a.trace))
  left_elsewhere i ne = ap (λ (ps : List (Entry × ℕ)). map noted (seen_at i ps)) stamps_more ∙ ap (map noted) (seen_elsewhere i (with_stamps a.trace) (e, a.state.last) ne)

abbrev the_name : Described → Program → ℕ → CellName
the_name t p n = record { tables = t; program = p; instance = n }

-- ---- the hand after a turn

-- what is known of a hand before and after a turn at one place
pub record IsTurned (h : Handed) (place i : ℕ) (before after : Passing) (passes : List Passing) : Type 0 where
  pub hand : IsHand h
  pub there : slice_get (placed h.actor.tables) place ≡ Some i
  pub was : slice_get h.passes place ≡ Some before
  pub turned : HasTurned before after
  pub now_is : passes ≡ slice_set h.passes place after

module _ (h : Handed) (place i : ℕ) (before after : Passing) (passes : List Passing) (k : IsTurned h place i before after passes) where
  own : IsOwn h.actor i before
  own = k.hand.own place i before k.there k.was

  now_there : slice_get passes place ≡ Some after
  now_there = ap (λ (ps : List Passing). slice_get ps place) k.now_is ∙ set_here h.passes place after (slice_get_within h.passes place before k.was)

  others_stay : (j : ℕ) → j ≢ place → slice_get passes j ≡ slice_get h.passes j
  others_stay j ne = ap (λ (ps : List Passing). slice_get ps j) k.now_is ∙ set_there h.passes place j after ne

  long : length passes ≡ length (placed h.actor.tables)
  long = ap length k.now_is ∙ (length-set h.passes place after ∙ k.hand.count)

  all_own : (b : Acting) → IsOwn b i after → ((j n : ℕ) (q : Passing) → j ≢ place → slice_get (placed h.actor.tables) j ≡ Some n → slice_get h.passes j ≡ Some q → IsOwn b n q)
      → (j n : ℕ) (q : Passing) → slice_get (placed h.actor.tables) j ≡ Some n → slice_get passes j ≡ Some q → IsOwn b n q
  all_own b here others j n q at its = go (eqb_tells j place)
    where
      go : ((eqb j place ≡ true) × (j ≡ place)) ⊎ ((eqb j place ≡ false) × (j ≢ place)) → IsOwn b n q
      go (inl is) =
          let n_is : i ≡ n = same_some (sym k.there ∙ (ap (slice_get (placed h.actor.tables)) (sym is.1) ∙ at)) in
          let q_is : after ≡ q = same_some (sym now_there ∙ (ap (slice_get passes) (sym is.1) ∙ its)) in
          subst (λ (m : ℕ). IsOwn b m q) n_is (subst (λ (x : Passing). IsOwn b i x) q_is here)
      go (inr ne) = others j n q ne.1 at (sym (others_stay j ne.1) ∙ its)

  -- where nothing was left
  pub still_hand : after.view.left ≡ before.view.left → IsHand (record { actor = h.actor; passes = passes })
  still_hand same = record {
    told = k.hand.told;
    count = long;
    own = all_own h.actor (record {
      number = k.turned.number ∙ own.number;
      made = k.turned.made ∙ own.made;
      name = k.turned.name ∙ own.name;
      left = same ∙ own.left;
    })
        (λ j n q ne at its. k.hand.own j n q at its);
  }

  pub still_untouched : after.view.left ≡ before.view.left → IsUntouched h (record { actor = h.actor; passes = passes })
  still_untouched same = record {
    actor = record { tables = refl; program = refl; number = refl };
    state = refl;
    trace = refl;
    lefts = ap (map (λ (q : Passing). q.view.left)) k.now_is
        ∙ map-set_same (λ (q : Passing). q.view.left) h.passes place after before
        (same ∙ ap (λ (q : Passing). q.view.left) (sym (get_or_from_slice_get h.passes place before before k.was)));
  }

  pub same_locks : map (λ (q : Passing). q.lock) passes ≡ map (λ (q : Passing). q.lock) h.passes
  same_locks =
      ap (map (λ (q : Passing). q.lock)) k.now_is
      ∙ map-set_same (λ (q : Passing). q.lock) h.passes place after before
      (k.turned.lock ∙ ap (λ (q : Passing). q.lock) (sym (get_or_from_slice_get h.passes place before before k.was)))

  module _ (ask : Ask) (due : due_of_actor h.actor ≡ Some (i, ask)) where
    abbrev met : (b : Acting) (s : InstanceState) → Kept (core h.actor.tables h.actor.program) i (items after.view.base) s → Met h (record { actor = b; passes = passes })
    met b s saw = record {
      instance = i;
      place = place;
      ask = ask;
      before = before;
      after = after;
      state = s;
      due = due;
      there = k.there;
      was = k.was;
      is = now_there;
      others = others_stay;
      turns = k.turned.turns;
      saw = saw;
    }

    pub not_yet : (why : Why) → Replies h.actor i ask (reply.NotYet why) before after → StepAnswers h (NotYet why) (record { actor = h.actor; passes = passes })
    unfolding StepAnswers
    not_yet why r =
        (met h.actor r.state r.saw, no_step h.actor.tables h.actor.program i r.state h.actor.number h.actor.state.last ask why r.says.0, r.says.0, still_untouched r.says.1)

    pub at_limit : Replies h.actor i ask reply.AtLimit before after → StepAnswers h AtLimit (record { actor = h.actor; passes = passes })
    unfolding StepAnswers
    at_limit r =
        let says = r.says in
        (met h.actor r.state r.saw, record { entry = says.0; leaves = says.1; part = says.2; above = says.3 }, still_untouched says.4)

    -- the step's entry is one that the actor accepts
    pub acceptable : (e : Entry) → Replies h.actor i ask (reply.Stepped e) before after → AnswersDue h.actor e × (h.actor.state.last < e.stamp) × (e.stamp ≤ h.actor.program.steps)
    acceptable e r =
        let says = r.says in (
          answers_it h.actor.tables h.actor.program h.actor.number i r.state says.0 h.actor.state ask e due says.1,
          is_above h.actor.tables h.actor.program h.actor.number i r.state says.0 h.actor.state ask e says.1,
          says.2,
        )

    module _ (e : Entry) (r : Replies h.actor i ask (reply.Stepped e) before after) (b : Acting) (same : IsSameActor h.actor b) (more : b.trace ≡ h.actor.trace ++ e ∷ []) where
      at_its : e.instance ≡ i
      at_its = (given h.actor.tables h.actor.program i h.actor.number h.actor.state.last r.state r.says.0 ask e r.says.1).instance

      made_same : made_at (actor_count h.actor.tables h.actor.program) h.actor.number ≡ made_at (actor_count b.tables b.program) b.number
      made_same =
          ap (λ (t : Described). made_at (actor_count t h.actor.program) h.actor.number) (sym same.tables)
          ∙ (ap (λ (p : Program). made_at (actor_count b.tables p) h.actor.number) (sym same.program) ∙ ap (λ (n : ℕ). made_at (actor_count b.tables b.program) n) (sym same.number))

      name_same : (n : ℕ) → ◌≡◌ {A = Option CellName} (Some (record { tables = h.actor.tables; program = h.actor.program; instance = n }))
          (Some (record { tables = b.tables; program = b.program; instance = n }))
      name_same n =
          ap (λ (t : Described). Some (the_name t h.actor.program n)) (sym same.tables) ∙ ap (λ (p : Program). Some (the_name b.tables p n)) (sym same.program)

      own_after : IsOwn b i after
      own_after = record {
        number = k.turned.number ∙ (own.number ∙ sym same.number);
        made = k.turned.made ∙ (own.made ∙ made_same);
        name = k.turned.name ∙ (own.name ∙ name_same i);
        left = r.says.3
            ∙ (ap (λ (l : List (Left Entry)). l ++ noted (e, h.actor.state.last) ∷ []) own.left
            ∙ subst (λ (n : ℕ). map noted (seen_at n (with_stamps h.actor.trace)) ++ noted (e, h.actor.state.last) ∷ [] ≡ map noted (seen_at n (with_stamps b.trace))) at_its
            (sym (left_here h.actor k.hand.told e b.trace more)));
      }

      own_other : (n : ℕ) (q : Passing) → e.instance ≢ n → IsOwn h.actor n q → IsOwn b n q
      own_other n q ne its = record {
        number = its.number ∙ sym same.number;
        made = its.made ∙ made_same;
        name = its.name ∙ name_same n;
        left = its.left ∙ sym (left_elsewhere h.actor k.hand.told e b.trace more n ne);
      }

      pub next_hand : numbers_differ (placed h.actor.tables) ≡ true → IsToldOf b → IsHand (record { actor = b; passes = passes })
      next_hand differ told = record {
        told = told;
        count = long ∙ ap (λ (t : Described). length (placed t)) (sym same.tables);
        own = λ j n q at its. all_own b own_after
            (λ j n q ne at its. own_other n q
            (λ is. ne (one_place (placed h.actor.tables) j place i differ (at ∙ ap Some (sym is ∙ at_its)) k.there)) (k.hand.own j n q at its))
            j n q (subst (λ (t : Described). slice_get (placed t) j ≡ Some n) same.tables at) its;
      }

      pub took : actor_part h.actor.tables h.actor.program h.actor.number h.actor.state e ≡ Some b.state → StepAnswers h Took (record { actor = b; passes = passes })
      unfolding StepAnswers
      took accepted = (
        met b r.state r.saw,
        record { entry = e; leaves = r.says.0; part = r.says.1; within = r.says.2; accepted = accepted; trace = more; actor = same; left = r.says.3 },
      )

-- ---- the passes themselves

pub on_err : {X Y P : Type 0} (r : Result X Y) → P → OnErr r P
on_err (Ok x) p = tt
on_err (Err y) p = p

module _ {T : Type 0} {g : Ghosts T CellName Entry} (ps : List (Pass T CellName Entry g)) (a : Acting) (place i : ℕ) (pass : Pass T CellName Entry g)
    (hand : IsHand (record { actor = a; passes = map (λ p. passing p) ps })) (there : slice_get (placed a.tables) place ≡ Some i) (value : pass ≡ get_or ps place pass) where
  pub item_there : slice_get ps place ≡ Some pass
  item_there =
      let low : place < length (placed a.tables) = slice_get_within (placed a.tables) place i there in
      let long : length ps ≡ length (placed a.tables) = sym (length-map ps (λ p. passing p)) ∙ hand.count in
      slice_get-get_or ps place pass (omega (arith, low, long)) ∙ ap Some (sym value)

  pub was_there : slice_get (map (λ p. passing p) ps) place ≡ Some (passing pass)
  was_there = slice_get-map (λ p. passing p) ps place ∙ ap (option_map (λ p. passing p)) item_there

  pub turned_hand : (new : Pass T CellName Entry g) → HasTurned (passing pass) (passing new)
      → IsTurned (record { actor = a; passes = map (λ p. passing p) ps }) place i (passing pass) (passing new) (map (λ p. passing p) (slice_set ps place new))
  turned_hand new turned = record { hand = hand; there = there; was = was_there; turned = turned; now_is = map-set (λ p. passing p) ps place new }

pub idle_set : {T : Type 0} {g : Ghosts T CellName Entry} (ps : List (Pass T CellName Entry g)) (place : ℕ) (new : Pass T CellName Entry g) → All (λ p. IsIdle p) ps → IsIdle new
    → All (λ p. IsIdle p) (slice_set ps place new)
idle_set {T} {g} ps place new all here = get_all (λ p. IsIdle p) (slice_set ps place new) (λ k x at. go k x at (eqb_tells k place))
  where
    go : (k : ℕ) (x : Pass T CellName Entry g) → slice_get (slice_set ps place new) k ≡ Some x → ((eqb k place ≡ true) × (k ≡ place)) ⊎ ((eqb k place ≡ false) × (k ≢ place)) → IsIdle x
    go k x at (inl is) =
        let low : k < length (slice_set ps place new) = slice_get_within (slice_set ps place new) k x at in
        let long : length (slice_set ps place new) ≡ length ps = length-set ps place new in
        let x_is : new ≡ x = same_some (sym (set_here ps place new (omega (arith, low, long, is.1))) ∙ (ap (slice_get (slice_set ps place new)) (sym is.1) ∙ at)) in
        subst (λ (z : Pass T CellName Entry g). IsIdle z) x_is here
    go k x at (inr ne) = all_get (λ p. IsIdle p) ps k x all (sym (set_there ps place k new ne.1) ∙ at)
