-- The parts of a run, listed for the topology's instances and the program's actors, and found by number.
use Rattle.std.proofs.Common.{◌≡◌, ℕ, ◌<◌, ◌≤◌, Bool, true, false, List, [], ◌∷◌, map, length, refl, sym, ap, ◌∙◌, ◌⊎◌, inl, inr, arith}
use Rattle.std.proofs.lemmas.List.{length-map}
use Rattle.std.proofs.lemmas.List.FromFn.{length-map-range_with_len, get_or-map-range_with_len}
use Rattle.std.proofs.lemmas.Option.{slice_get-map}
use Rattle.std.specs.Prelude.{option_map}
use Rattle.fp_base.proofs.Options.{same_some}
use Rattle.fp_base.proofs.Spots.{before_or_not}
use Rattle.fp_events.specs.SystemRun as system
use Rattle.fp_tables.specs.Acts.{is_placed}
use Rattle.fp_tables.specs.Lists.{is_in}
use Rattle.fp_tables.specs.Lookup.{Described, placed}
use Rattle.fp_tables.specs.declared.program.Program.{Program}
use Rattle.fp_events.specs.declared.event.Entry.{Entry}
use Rattle.fp_events.specs.Fits.{actor_count}
use Rattle.fp_events.specs.Run.{at, by, actors, history, trace, IsKept, IsTold}
use Rattle.fp_events.proofs.Recorded.{fit_parts, row_absent, row_past}
use Rattle.fp_events.proofs.StepLaws.{given, taken}
use Rattle.fp_run_laws.proofs.Rows.{row_found}

row_of-map : (f : ℕ → List Entry) (ns : List ℕ) (i : ℕ) → is_in i ns ≡ true → system.row_of ns (map f ns) i ≡ f i
row_of-map f ns i there =
    let r = row_found ns (map f ns) i there (length-map ns f) in
    same_some (sym r.2 ∙ slice_get-map f ns r.0 ∙ ap (option_map f) r.1)

module _ (t : Described) (p : Program) where
  nothing_out : (i : ℕ) (es : List Entry) → IsKept t p i es → is_placed t i ≡ false → es ≡ []
  nothing_out i [] h out = refl
  nothing_out i (e ∷ es) (s, k) out =
      let step = k.1 in
      let g = given t p i e.actor step.seen _ k.0 step.ask e step.part in
      let both_are : true ≡ false = sym (fit_parts t p e.actor i e.what g.fit).1 ∙ out in
      absurd (cc)

  nothing_past : (a : ℕ) (es : List Entry) → IsTold t p a es → actor_count t p ≤ a → es ≡ []
  nothing_past a [] h past = refl
  nothing_past a (e ∷ es) (x, k) past =
      let g = taken t p a _ k.0 e k.1.part in
      let low : a < actor_count t p = (fit_parts t p a g.asked.0 e.what g.fit).0 in
      absurd (omega arith)

  module _ (es : List Entry) where
    pub parts_at : ((i : ℕ) → IsKept t p i (at i es)) → (i : ℕ) → history t p (map (λ i. at i es) (placed t)) i ≡ at i es
    parts_at kept i = go (is_placed t i) refl
      where
        go : (b : Bool) → is_placed t i ≡ b → history t p (map (λ i. at i es) (placed t)) i ≡ at i es
        go true is = row_of-map (λ i. at i es) (placed t) i is
        go false is = row_absent (placed t) (map (λ i. at i es) (placed t)) i is ∙ sym (nothing_out i (at i es) (kept i) is)

    pub parts_by : ((a : ℕ) → IsTold t p a (by a es)) → (a : ℕ) → trace t p (map (λ a. by a es) (actors t p)) a ≡ by a es
    parts_by told a = go (before_or_not a (actor_count t p))
      where
        long : length (map (λ a. by a es) (actors t p)) ≡ actor_count t p
        long = length-map-range_with_len (λ a. by a es) 0 (actor_count t p)

        go : (a < actor_count t p) ⊎ (actor_count t p ≤ a) → trace t p (map (λ a. by a es) (actors t p)) a ≡ by a es
        go (inl low) = get_or-map-range_with_len (λ a. by a es) 0 (actor_count t p) a a [] low (omega arith)
        go (inr past) = row_past (map (λ a. by a es) (actors t p)) a (omega (arith, long, past)) ∙ sym (nothing_past a (by a es) (told a) past)
