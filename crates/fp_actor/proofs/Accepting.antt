-- What an actor makes of an entry that answers its due ask.
use Rattle.std.proofs.Common.{◌≡◌, ℕ, suc, max, ◌-◌, ◌<◌, nat_lt, Bool, true, false, cond, ◌&&◌, ◌==◌, List, [], ◌∷◌, ◌++◌, length, Option, Some, None, option_map, refl, sym, ap, ◌∙◌, subst, arith}
use Rattle.std.proofs.lemmas.Bool.Decides.{nat_tests}
use Rattle.fp_base.proofs.Bools.{both}
use Rattle.fp_base.proofs.Sameness.{nat_same}
use Rattle.std.specs.List.{slice_get}
use Rattle.fp_events.specs.SystemRun as system
use Rattle.fp_events.proofs.Turns.{InTurn-more}
use Rattle.fp_tables.specs.Lookup.{Described}
use Rattle.fp_tables.specs.declared.program.Program.{Program}
use Rattle.fp_events.specs.declared.event.Ask.{Ask}
use Rattle.fp_events.specs.declared.event.Entry.{Entry}
use Rattle.fp_events.specs.Actor.{ActorState, Thread}
use Rattle.fp_events.specs.Answers.{answers}
use Rattle.fp_events.specs.Fits.{fits}
use Rattle.fp_events.specs.Due.{due, due_of}
use Rattle.fp_events.specs.Follows.{follows}
use Rattle.fp_events.specs.Step.{core, answers_due, taken_by, actor_part}
use Rattle.fp_events.specs.Ends.{is_asserted}
use Rattle.fp_events.proofs.Halting.{follows_halted}
use Rattle.fp_actor.specs.declared.level.Level.{Level}
use Rattle.fp_actor.specs.declared.level.Binding.{Binding}
use Rattle.fp_actor.specs.Stacked.{frames}
use Rattle.fp_actor.specs.Placed.{AreKept, Goes}
use Rattle.fp_actor.specs.Awaited.{IsAwaited}
use Rattle.fp_actor.proofs.Awaiting.{awaited}
use Rattle.fp_actor.proofs.Growing.{frames_grown}
use Rattle.fp_actor.proofs.Keeping.{before_all}
use Rattle.fp_base.proofs.Lists.{get_last}

pub rooms : (a b c d e f : ℕ) → (nat_lt a b && nat_lt c d && nat_lt e f) ≡ true → (a < b) × (c < d) × (e < f)
rooms a b c d e f h =
    let p = both (nat_lt a b && nat_lt c d) (nat_lt e f) h in
    let q = both (nat_lt a b) (nat_lt c d) p.0 in
    (grind (arith, nat_tests, q.0), grind (arith, nat_tests, q.1), grind (arith, nat_tests, p.1))

some_true : (b : Bool) → Some b ≡ Some true → b ≡ true
some_true b e = cc

-- the stamp is one more than the greater of some number and the last
stamp_over : (n last : ℕ) → last < n → n ≡ suc (max (n - 1) last)
stamp_over n last h = omega arith

module _ (t : Described) (program : Program) (a : ℕ) (e : Entry) where
  pub told_more : (trace : List Entry) (x z : ActorState) → actor_part t program a x e ≡ Some z → x.last < e.stamp → system.Told (core t program) a trace x → system.Told (core t program) a (trace ++ e ∷ []) z
  told_more trace x z part above told =
      InTurn-more (system.ActorStep (core t program) a) trace _ x z e told (record { seen = e.stamp - 1; part = part; stamp = stamp_over e.stamp x.last above })

  instance_of : (d : ℕ × Ask) → answers_due t program a e d ≡ true → (e.instance ≡ d.0) × (answers t d.0 e.what d.1 ≡ true)
  instance_of d h =
      let p = both ((e.actor == a) && (e.instance == d.0) && answers t d.0 e.what d.1) (fits t program a d.0 e.what) h in
      let q = both ((e.actor == a) && (e.instance == d.0)) (answers t d.0 e.what d.1) p.0 in
      let r = both (e.actor == a) (e.instance == d.0) q.0 in
      (nat_same.equal e.instance d.0 r.1, q.1)

  pub part : (x : ActorState) → option_map (answers_due t program a e) (due t program a x.thread) ≡ Some true →
      actor_part t program a x e ≡ Some (record { thread = follows t program e.instance x.thread e.what; last = e.stamp })
  unfolding actor_part
  part x h = go (due t program a x.thread) h
    where
      go : (o : Option (ℕ × Ask)) → option_map (answers_due t program a e) o ≡ Some true → taken_by t program a x e o ≡ Some (record { thread = follows t program e.instance x.thread e.what; last = e.stamp })
      go None h = absurd (cc)
      go (Some d) h =
          let yes = some_true (answers_due t program a e d) h in
          ap (λ b. cond b (Some (record { thread = follows t program d.0 x.thread e.what; last = e.stamp })) None) yes
          ∙ ap (λ i. Some (record { thread = follows t program i x.thread e.what; last = e.stamp })) (sym (instance_of d yes).0)

  pub going : (x : Thread) → option_map (answers_due t program a e) (due t program a x) ≡ Some true → (x.halted ≡ false) × IsAwaited x.frames e.what
  unfolding due
  going x h = go x.halted refl h
    where
      there : (o : Option (ℕ × Ask)) → due_of t program a x.frames ≡ o → option_map (answers_due t program a e) o ≡ Some true → IsAwaited x.frames e.what
      there None q h = absurd (cc)
      there (Some d) q h = awaited t program a x.frames e.what d q (instance_of d (some_true (answers_due t program a e d) h)).1

      go : (b : Bool) → x.halted ≡ b → option_map (answers_due t program a e) (cond b None (due_of t program a x.frames)) ≡ Some true → (x.halted ≡ false) × IsAwaited x.frames e.what
      go true q h = absurd (cc)
      go false q h = (q, there (due_of t program a x.frames) refl h)

module _ (t : Described) (program : Program) (number : ℕ) (trace : List Entry) (bs : List Binding) (ls : List Level) (kept : AreKept t program number trace bs ls) where
  grown_same : (more : List Entry) → frames t program number (trace ++ more) bs ls ≡ frames t program number trace bs ls
  grown_same more = frames_grown t program number trace more bs kept.bound ls (before_all t program number trace bs ls kept)

  module _ (e : Entry) (halted : Bool) (last : ℕ) where
    abbrev state : ActorState
    state = record { thread = record { frames = frames t program number trace bs ls; halted = halted }; last = last }

    module _ (takes : option_map (answers_due t program number e) (due t program number state.thread) ≡ Some true) where
      pub awaits : IsAwaited (frames t program number (trace ++ e ∷ []) bs ls) e.what
      awaits = subst (λ fs. IsAwaited fs e.what) (sym (grown_same (e ∷ []))) (going t program number e state.thread takes).1

      pub accepted : (cs : List Binding) (ms : List Level) → Goes t program number (trace ++ e ∷ []) e bs ls cs ms →
          actor_part t program number state e
          ≡ Some (record { thread = record { frames = frames t program number (trace ++ e ∷ []) cs ms; halted = is_asserted e.what }; last = e.stamp })
      accepted cs ms goes =
          let frames_are = goes.follow state.thread (sym (grown_same (e ∷ []))) in
          let halts = follows_halted t program e.instance state.thread e.what (going t program number e state.thread takes).0 in
          part t program number e state takes ∙ (λ j. Some (record { thread = record { frames = sym frames_are j; halted = halts j }; last = e.stamp }))

      -- with the trace and the test for an assert as they were found
      module _ (grown seen : List Entry) (at : ℕ) (asserts : Bool) (cs : List Binding) (ms : List Level) where
        abbrev pub after : ActorState
        after = record { thread = record { frames = frames t program number grown cs ms; halted = asserts }; last = e.stamp }

        module _ (pushed : grown ≡ trace ++ e ∷ []) (same : seen ≡ grown) (end : at ≡ length trace) (asserts_is : asserts ≡ is_asserted e.what) where
          module _ (follow : (entry : Entry) → slice_get seen at ≡ Some entry → IsAwaited (frames t program number seen bs ls) entry.what → Goes t program number seen entry bs ls cs ms) where
            went : Goes t program number (trace ++ e ∷ []) e bs ls cs ms
            went =
                let whole : seen ≡ trace ++ e ∷ [] = same ∙ pushed in
                let there : slice_get seen at ≡ Some e = (λ j. slice_get (whole j) (end j)) ∙ get_last trace e in
                subst (λ es. Goes t program number es e bs ls cs ms) whole (follow e there (subst (λ es. IsAwaited (frames t program number es bs ls) e.what) (sym whole) awaits))

            pub kept_after : AreKept t program number grown cs ms
            kept_after = subst (λ es. AreKept t program number es cs ms) (sym pushed) went.kept

            pub state_after : actor_part t program number state e ≡ Some after
            state_after =
                accepted cs ms went
                ∙ (λ j. Some (record { thread = record { frames = frames t program number (sym pushed j) cs ms; halted = sym asserts_is j }; last = e.stamp }))

            pub told_after : last < e.stamp → system.Told (core t program) number trace state → system.Told (core t program) number grown after
            told_after above told =
                subst (λ es. system.Told (core t program) number es after) (sym pushed)
                (told_more t program number e trace state after state_after above told)
