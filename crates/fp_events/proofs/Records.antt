-- The histories and traces of a run, listed for the topology's instances and the program's actors, agree.
use Rattle.std.proofs.Common.{◌≡◌, ℕ, ◌<◌, ◌≤◌, Bool, true, false, cond, ◌||◌, List, [], ◌∷◌, map, length, refl, sym, ap, ◌∙◌, subst, ◌⊎◌, inl, inr, ◌≢◌, arith, eqb}
use Rattle.std.proofs.lemmas.List.{length-map}
use Rattle.std.proofs.lemmas.List.FromFn.{length-map-range_with_len, get_or-map-range_with_len}
use Rattle.std.proofs.lemmas.Bool.Decides.{eqb_tells, nat_tests}
use Rattle.fp_base.proofs.Spots.{before_or_not}
use Rattle.fp_events.specs.SystemRun as system
use Rattle.fp_events.proofs.Agreement.{recorded}
use Rattle.fp_tables.specs.Lookup.{Described, placed}
use Rattle.fp_tables.specs.declared.program.Program.{Program}
use Rattle.fp_events.specs.declared.event.Entry.{Entry}
use Rattle.fp_tables.specs.Lists.{is_in}
use Rattle.fp_events.specs.Instance.{InstanceState}
use Rattle.fp_events.specs.Actor.{ActorState}
use Rattle.fp_events.specs.Fits.{actor_count}
use Rattle.fp_tables.specs.Acts.{is_placed}
use Rattle.fp_events.specs.Step.{core}
use Rattle.fp_events.specs.Run.{at, by, actors, IsRun, IsKept, IsTold, history, trace, AreRecords}
use Rattle.fp_events.proofs.StepLaws.{given, taken, core_laws}
use Rattle.fp_events.proofs.Recorded.{fit_parts, row_absent, row_past}

-- of a list made number by number the one of a number that is there
row_of-map : {E : Type 0} (f : ℕ → List E) (ns : List ℕ) (i : ℕ) → is_in i ns ≡ true → system.row_of ns (map f ns) i ≡ f i
row_of-map f [] i h = absurd (cc)
row_of-map f (n ∷ ns) i h =
    let flip : eqb n i ≡ eqb i n = grind (arith, nat_tests) in
    go (eqb_tells i n) (subst (λ (b : Bool). (b || is_in i ns) ≡ true) flip h) (row_of-map f ns i)
  where
    go : ((eqb i n ≡ true) × (i ≡ n)) ⊎ ((eqb i n ≡ false) × (i ≢ n)) → (eqb i n || is_in i ns) ≡ true
        → (is_in i ns ≡ true → system.row_of ns (map f ns) i ≡ f i) → cond (eqb i n) (f n) (system.row_of ns (map f ns) i) ≡ f i
    go (inl is) there again = rw is.0 (ap f (sym is.1))
    go (inr is) there again = rw is.0 (again (rw is.0 at there))

module _ (t : Described) (program : Program) where
  out_of_place : (i : ℕ) (es : List Entry) (s u : InstanceState) → system.InTurn (system.InstanceStep (core t program) i) s es u → is_placed t i ≡ false → es ≡ []
  out_of_place i [] s u h out = refl
  out_of_place i (e ∷ es) s u h out =
      let g = given t program i e.actor h.1.seen s h.0 h.1.ask e h.1.part in
      let both_are : true ≡ false = sym (fit_parts t program e.actor i e.what g.fit).1 ∙ out in
      absurd (cc)

  no_actor : (a : ℕ) (es : List Entry) (x z : ActorState) → system.InTurn (system.ActorStep (core t program) a) x es z → actor_count t program ≤ a → es ≡ []
  no_actor a [] x z h past = refl
  no_actor a (e ∷ es) x z h past =
      let k = taken t program a x h.0 e h.1.part in
      let low : a < actor_count t program = (fit_parts t program a k.asked.0 e.what k.fit).0 in
      absurd (omega arith)

  module _ (es : List Entry) (run : IsRun t program es) where
    of_run : system.Mergeable (core t program) (λ i. at i es) (λ a. by a es) run.0
    of_run = recorded (core t program) (core_laws t program) es run.0 run.1

    histories_are : (i : ℕ) → history t program (map (λ i. at i es) (placed t)) i ≡ at i es
    histories_are i = go (is_placed t i) refl
      where
        go : (b : Bool) → is_placed t i ≡ b → history t program (map (λ i. at i es) (placed t)) i ≡ at i es
        go true is = row_of-map (λ i. at i es) (placed t) i is
        go false is = row_absent (placed t) (map (λ i. at i es) (placed t)) i is ∙ sym (out_of_place i (at i es) _ _ (of_run.kept i) is)

    traces_are : (a : ℕ) → trace t program (map (λ a. by a es) (actors t program)) a ≡ by a es
    traces_are a = go (before_or_not a (actor_count t program))
      where
        long : length (map (λ a. by a es) (actors t program)) ≡ actor_count t program
        long = length-map-range_with_len (λ a. by a es) 0 (actor_count t program)

        go : (a < actor_count t program) ⊎ (actor_count t program ≤ a) → trace t program (map (λ a. by a es) (actors t program)) a ≡ by a es
        go (inl low) = get_or-map-range_with_len (λ a. by a es) 0 (actor_count t program) a a [] low (omega arith)
        go (inr past) = row_past (map (λ a. by a es) (actors t program)) a (omega (arith, long, past)) ∙ sym (no_actor a (by a es) _ _ (of_run.told a) past)

    pub run_records : AreRecords t program (map (λ i. at i es) (placed t)) (map (λ a. by a es) (actors t program))
    run_records = record {
      instances = length-map (placed t) (λ i. at i es);
      actors = length-map-range_with_len (λ a. by a es) 0 (actor_count t program);
      kept = λ i is. subst (IsKept t program i) (sym (histories_are i)) (_, of_run.kept i);
      told = λ a low. subst (IsTold t program a) (sym (traces_are a)) (_, of_run.told a);
      entries = λ i a is low. ap (by a) (histories_are i) ∙ of_run.agree.entries i a ∙ sym (ap (at i) (traces_are a));
      stamps = λ e earlier later before rest here mine.
          of_run.agree.stamps e earlier later before rest (sym (histories_are e.instance) ∙ here) (sym (traces_are e.actor) ∙ mine);
    }
