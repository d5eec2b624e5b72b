-- Histories whose entries stand with the stamps that were seen, and traces, are records that agree.
use Rattle.std.proofs.Common.{◌≡◌, ℕ, ◌<◌, ◌≤◌, Bool, true, false, ◌⊎◌, inl, inr, List, [], ◌∷◌, map, Some, slice_get, refl, sym, ap, ◌∙◌, subst, arith}
use Rattle.std.proofs.lemmas.List.{length-map}
use Rattle.std.proofs.lemmas.Option.{slice_get-get_or}
use Rattle.fp_base.proofs.Spots.{before_or_not}
use Rattle.fp_events.specs.SystemRun as system
use Rattle.fp_events.proofs.OfRun.{told_rises}
use Rattle.fp_events.proofs.Seen.{seen_agree}
use Rattle.fp_events.proofs.Turns.{projection-other}
use Rattle.fp_tables.specs.Acts.{is_placed}
use Rattle.fp_tables.specs.Lookup.{Described, placed}
use Rattle.fp_tables.specs.declared.program.Program.{Program}
use Rattle.fp_events.specs.declared.event.Entry.{Entry}
use Rattle.fp_events.specs.Actor.{ActorState}
use Rattle.fp_events.specs.Fits.{actor_count}
use Rattle.fp_events.specs.Instance.{InstanceState}
use Rattle.fp_events.specs.Run.{by, IsKept, IsTold, IsRising, trace, AreRecords}
use Rattle.fp_events.specs.Step.{core}
use Rattle.fp_events.proofs.Recorded.{fit_parts, row_absent, row_past}
use Rattle.fp_events.proofs.StepLaws.{given, taken, core_laws}
use Rattle.fp_run_laws.specs.Seen.{entries, with_stamps, IsTimed, seen_by, seen_at, AreSeen}
use Rattle.fp_run_laws.proofs.Rows.{row_found, row_of-mapped}

module _ (t : Described) (program : Program) where
  -- a history has no entry of an actor that isn't there
  no_actor_seen : (i : ℕ) (ps : List (Entry × ℕ)) (s u : InstanceState) → system.InTurn (system.InstanceStep (core t program) i) s (entries ps) u
      → (a : ℕ) → actor_count t program ≤ a → seen_by a ps ≡ []
  no_actor_seen i [] s u h a past = refl
  no_actor_seen i (p ∷ ps) s u h a past =
      let g = given t program i p.0.actor h.1.seen s h.0 h.1.ask p.0 h.1.part in
      let low : p.0.actor < actor_count t program = (fit_parts t program p.0.actor i p.0.what g.fit).0 in
      projection-other (λ (q : Entry × ℕ). q.0.actor) a p ps (λ is. absurd (omega (arith, is))) ∙ no_actor_seen i ps h.0 u h.2 a past

  -- a trace has no entry at an instance that isn't in the topology
  no_instance_told : (a n : ℕ) (es : List Entry) (x z : ActorState) → system.InTurn (system.ActorStep (core t program) a) x es z
      → (i : ℕ) → is_placed t i ≡ false → seen_at i (system.with_before (λ (e : Entry). e.stamp) n es) ≡ []
  no_instance_told a n [] x z h i out = refl
  no_instance_told a n (e ∷ es) x z h i out =
      let k = taken t program a x h.0 e h.1.part in
      let here : is_placed t e.instance ≡ true = subst (λ (m : ℕ). is_placed t m ≡ true) (sym k.instance) (fit_parts t program a k.asked.0 e.what k.fit).1 in
      projection-other (λ (q : Entry × ℕ). q.0.instance) i (e, n) (system.with_before (λ (d : Entry). d.stamp) e.stamp es)
      (λ is. not_both (subst (λ (m : ℕ). is_placed t m ≡ true) is here))
      ∙ no_instance_told a e.stamp es h.0 z h.2 i out
    where
      not_both : is_placed t i ≡ true → ⊥
      not_both in_it = let both_are : true ≡ false = sym in_it ∙ out in absurd (cc)

  module _ (held : List (List (Entry × ℕ))) (traces : List (List Entry)) (seen : AreSeen t program held traces) where
    -- the history of an instance
    abbrev held_of : ℕ → List (Entry × ℕ)
    held_of i = system.row_of (placed t) held i

    held_at : (i : ℕ) → is_placed t i ≡ true → (k : ℕ) × (slice_get (placed t) k ≡ Some i) × (slice_get held k ≡ Some (held_of i))
    held_at i is = row_found (placed t) held i is seen.instances

    trace_at : (a : ℕ) → a < actor_count t program → slice_get traces a ≡ Some (trace t program traces a)
    trace_at a low = slice_get-get_or traces a [] (omega (arith, seen.actors, low))

    none_past : (a : ℕ) → actor_count t program ≤ a → trace t program traces a ≡ []
    none_past a past = row_past traces a (omega (arith, seen.actors, past))

    timed_at : (i : ℕ) → IsTimed (held_of i)
    timed_at i = go (is_placed t i) refl
      where
        go : (b : Bool) → is_placed t i ≡ b → IsTimed (held_of i)
        go true is = let p = held_at i is in seen.timed p.0 (held_of i) p.2
        go false is = subst IsTimed (sym (row_absent (placed t) held i is)) tt

    kept_at : (i : ℕ) → is_placed t i ≡ true → IsKept t program i (entries (held_of i))
    kept_at i is = let p = held_at i is in seen.kept p.0 i (held_of i) p.1 p.2

    told_at : (a : ℕ) → a < actor_count t program → IsTold t program a (trace t program traces a)
    told_at a low = seen.told a (trace t program traces a) (trace_at a low)

    rises : (a : ℕ) → IsRising (trace t program traces a)
    rises a = go (before_or_not a (actor_count t program))
      where
        go : (a < actor_count t program) ⊎ (actor_count t program ≤ a) → IsRising (trace t program traces a)
        go (inl low) = let told = told_at a low in told_rises (core t program) (core_laws t program) a (trace t program traces a) told.0 told.1
        go (inr past) = subst IsRising (sym (none_past a past)) tt

    left_at : (i a : ℕ) → seen_by a (held_of i) ≡ seen_at i (with_stamps (trace t program traces a))
    left_at i a = go (is_placed t i) refl (before_or_not a (actor_count t program))
      where
        go : (b : Bool) → is_placed t i ≡ b → (a < actor_count t program) ⊎ (actor_count t program ≤ a)
            → seen_by a (held_of i) ≡ seen_at i (with_stamps (trace t program traces a))
        go true is (inl low) = let p = held_at i is in seen.left p.0 i a (held_of i) (trace t program traces a) p.1 p.2 (trace_at a low)
        go true is (inr past) =
            let kept = kept_at i is in
            no_actor_seen i (held_of i) _ kept.0 kept.1 a past ∙ sym (ap (λ es. seen_at i (with_stamps es)) (none_past a past))
        go false is (inl low) =
            let told = told_at a low in
            ap (seen_by a) (row_absent (placed t) held i is) ∙ sym (no_instance_told a 0 (trace t program traces a) _ told.0 told.1 i is)
        go false is (inr past) = ap (seen_by a) (row_absent (placed t) held i is) ∙ sym (ap (λ es. seen_at i (with_stamps es)) (none_past a past))

    agree : system.Agree (core t program) (λ i. entries (held_of i)) (trace t program traces)
    agree = seen_agree (core t program) held_of (trace t program traces) (record { timed = timed_at; left = left_at }) rises

    its_history : (i : ℕ) → system.row_of (placed t) (map entries held) i ≡ entries (held_of i)
    its_history i = row_of-mapped (λ (p : Entry × ℕ). p.0) (placed t) held i

    pub held_are_records : AreRecords t program (map entries held) traces
    held_are_records = record {
      instances = length-map held entries ∙ seen.instances;
      actors = seen.actors;
      kept = λ i is. subst (IsKept t program i) (sym (its_history i)) (kept_at i is);
      told = told_at;
      entries = λ i a is low. ap (by a) (its_history i) ∙ agree.entries i a;
      stamps = λ e earlier later before rest here mine. agree.stamps e earlier later before rest (sym (its_history e.instance) ∙ here) mine;
    }
