-- A list with the histories and traces of a run is a run to the same world, with the same end.
use Rattle.std.proofs.Common.{◌≡◌, ◌≢◌, ℕ, Bool, true, false, cond, ◌||◌, ◌⊎◌, inl, inr, List, [], ◌∷◌, filter, Some, None, is_some, refl, sym, ap, ◌∙◌, subst, eqb}
use Rattle.std.specs.List.{list_any}
use Rattle.std.proofs.lemmas.Bool.Decides.{eqb_tells}
use Rattle.fp_base.proofs.Bools.{or_cases, or_left, or_right}
use Rattle.fp_events.proofs.Agreement.{recorded}
use Rattle.fp_events.proofs.Merged.{decomposed}
use Rattle.fp_events.proofs.Turns.{projection-here, projection-other}
use Rattle.fp_tables.specs.Lookup.{Described}
use Rattle.fp_tables.specs.declared.program.Program.{Program}
use Rattle.fp_events.specs.declared.event.Entry.{Entry}
use Rattle.fp_events.specs.declared.event.Finish.{Finish}
use Rattle.fp_events.specs.declared.event.Finish.TheVariants.{Complete, Stuck, Spent, Asserted}
use Rattle.fp_events.specs.Ends.{EndsAs, can_step, finish, is_asserted, is_complete, next_stamp}
use Rattle.fp_events.specs.Run.{World, actors, at, by, RunTo}
use Rattle.fp_events.specs.Step.{core}
use Rattle.fp_events.proofs.StepLaws.{core_laws}

-- what stands in a part of a list stands in the list
any_filtered : {E : Type 0} (p q : E → Bool) (es : List E) → list_any p (filter q es) ≡ true → list_any p es ≡ true
any_filtered p q [] h = h
any_filtered {E} p q (e ∷ es) h = go (q e) refl (any_filtered p q es)
  where
    here_or_later : (p e ≡ true) ⊎ (list_any p (filter q es) ≡ true) → (list_any p (filter q es) ≡ true → list_any p es ≡ true) → (p e || list_any p es) ≡ true
    here_or_later (inl here) again = or_left (p e) (list_any p es) here
    here_or_later (inr later) again = or_right (p e) (list_any p es) (again later)

    go : (b : Bool) → q e ≡ b → (list_any p (filter q es) ≡ true → list_any p es ≡ true) → (p e || list_any p es) ≡ true
    go true is again = let k : (p e || list_any p (filter q es)) ≡ true = rw is at h in here_or_later (or_cases (p e) (list_any p (filter q es)) k) again
    go false is again = let k : list_any p (filter q es) ≡ true = rw is at h in or_right (p e) (list_any p es) (again k)

module _ (p : Entry → Bool) where
  any_behind : (i : ℕ) (e : Entry) (es : List Entry) → list_any p (at i es) ≡ true → list_any p (at i (e ∷ es)) ≡ true
  any_behind i e es h = go (eqb_tells e.instance i)
    where
      go : ((eqb e.instance i ≡ true) × (e.instance ≡ i)) ⊎ ((eqb e.instance i ≡ false) × (e.instance ≢ i)) → list_any p (at i (e ∷ es)) ≡ true
      go (inl is) = ap (list_any p) (projection-here (λ (x : Entry). x.instance) i e es is.1) ∙ or_right (p e) (list_any p (at i es)) h
      go (inr is) = ap (list_any p) (projection-other (λ (x : Entry). x.instance) i e es is.1) ∙ h

  -- what stands in a list stands there at an instance
  any_at : (es : List Entry) → list_any p es ≡ true → (i : ℕ) × (list_any p (at i es) ≡ true)
  any_at [] h = absurd (cc)
  any_at (e ∷ es) h = go (or_cases (p e) (list_any p es) h) (any_at es)
    where
      go : (p e ≡ true) ⊎ (list_any p es ≡ true) → (list_any p es ≡ true → (i : ℕ) × (list_any p (at i es) ≡ true)) → (i : ℕ) × (list_any p (at i (e ∷ es)) ≡ true)
      go (inl here) again = (
        e.instance,
        ap (list_any p) (projection-here (λ (x : Entry). x.instance) e.instance e es refl) ∙ or_left (p e) (list_any p (at e.instance es)) here,
      )
      go (inr later) again = let k = again later in (k.0, any_behind k.0 e es k.1)

  any_moved : (es fs : List Entry) → ((i : ℕ) → at i fs ≡ at i es) → list_any p es ≡ true → list_any p fs ≡ true
  any_moved es fs at_are h =
      let k = any_at es h in
      any_filtered p (λ (e : Entry). eqb e.instance k.0) fs (ap (list_any p) (at_are k.0) ∙ k.1)

  pub any_same : (es fs : List Entry) → ((i : ℕ) → at i fs ≡ at i es) → list_any p es ≡ list_any p fs
  any_same es fs at_are = both_ways (list_any p es) (list_any p fs) (any_moved es fs at_are) (any_moved fs es (λ i. sym (at_are i)))
    where
      both_ways : (a b : Bool) → (a ≡ true → b ≡ true) → (b ≡ true → a ≡ true) → a ≡ b
      both_ways true b to from = sym (to refl)
      both_ways false true to from = from refl
      both_ways false false to from = refl

module _ (t : Described) (program : Program) (es fs : List Entry) (at_are : (i : ℕ) → at i fs ≡ at i es) (by_are : (a : ℕ) → by a fs ≡ by a es) where
  pub run_anew : (w : World) → RunTo t program es w → RunTo t program fs w
  run_anew w h =
      decomposed (core t program) (core_laws t program) (λ i. at i es) (λ a. by a es) w (recorded (core t program) (core_laws t program) es w h) fs at_are by_are

  finish_anew : (w : World) (f : Finish) → finish t program es w ≡ Some f → finish t program fs w ≡ Some f
  finish_anew w f h =
      subst (λ (b : Bool). cond (list_any (can_step t program w) (actors t program)) None
      (Some (cond b Asserted (cond (list_any (λ a. is_some (next_stamp t program w a)) (actors t program)) Spent (cond (is_complete t program w) Complete Stuck)))) ≡ Some f)
      (any_same (λ (e : Entry). is_asserted e.what) es fs at_are) h

  pub end_anew : (f : Finish) → EndsAs t program es f → EndsAs t program fs f
  end_anew f h = (h.0, run_anew h.0 h.1, finish_anew h.0 f h.2)
