-- Histories of the topology's instances and traces of the program's actors that agree, joined and sorted, are a run.
use Rattle.std.proofs.Common.{◌≡◌, ℕ, zero, suc, ◌<◌, ◌≤◌, Bool, true, false, cond, ◌&&◌, ◌||◌, ◌==◌, not, nat_lt, length, List, [], ◌∷◌, refl, sym, ap, ◌∙◌, subst, ◌⊎◌, inl, inr, arith, eqb}
use Rattle.std.specs.List.{AllByRecursion, IsDistinct, list_any}
use Rattle.std.specs.List.Sorted.{IsSortedBy, IsStableBy}
use Rattle.std.proofs.lemmas.Bool.Decides.{nat_tests}
use Rattle.fp_events.specs.SystemRun as system
use Rattle.fp_events.proofs.Turns.{projection-other}
use Rattle.fp_events.proofs.Rows.{kept_owned, row_of_joined}
use Rattle.fp_events.proofs.Sorting.{NeverFalls, never_falls}
use Rattle.fp_events.proofs.Merged.{sorted_run, sorted_histories, sorted_traces, entry_lt-stamps}
use Rattle.fp_base.proofs.Bools.{both}
use Rattle.fp_base.proofs.Spots.{before_or_not}
use Rattle.fp_tables.specs.Names.{numbers_differ}
use Rattle.fp_tables.specs.Lookup.{Described, placed}
use Rattle.fp_tables.specs.declared.program.Program.{Program}
use Rattle.fp_events.specs.declared.event.Entry.{Entry}
use Rattle.fp_events.specs.declared.event.What.{What}
use Rattle.fp_tables.specs.Lists.{is_in}
use Rattle.fp_events.specs.Instance.{InstanceState}
use Rattle.fp_events.specs.Actor.{ActorState}
use Rattle.fp_events.specs.Fits.{fits, actor_count, what_fits}
use Rattle.fp_tables.specs.Acts.{is_placed}
use Rattle.fp_events.specs.Step.{core}
use Rattle.fp_events.specs.Run.{World, at, by, RunTo, IsKept, IsTold, history, trace, AreRecords}
use Rattle.fp_events.proofs.StepLaws.{given, taken, core_laws}

-- the list of a number that stands nowhere, or past the end, is empty
pub row_absent : {E : Type 0} (ns : List ℕ) (rows : List (List E)) (i : ℕ) → is_in i ns ≡ false → system.row_of ns rows i ≡ []
row_absent [] rows i h = refl
row_absent (n ∷ ns) [] i h = refl
row_absent (n ∷ ns) (es ∷ rows) i h =
    let flip : eqb n i ≡ eqb i n = grind (arith, nat_tests) in
    go (eqb i n) (subst (λ (b : Bool). (b || is_in i ns) ≡ false) flip h) (row_absent ns rows i)
  where
    go : (b : Bool) → (b || is_in i ns) ≡ false → (is_in i ns ≡ false → system.row_of ns rows i ≡ []) → cond b es (system.row_of ns rows i) ≡ []
    go true out again = absurd (cc)
    go false out again = again out

pub row_past : {E : Type 0} (rows : List (List E)) (k : ℕ) → length rows ≤ k → system.row rows k ≡ []
row_past [] k past = refl
row_past (es ∷ rows) zero past = absurd (omega arith)
row_past (es ∷ rows) (suc k) past = row_past rows k (omega arith)

-- numbers that a test finds apart are distinct
apart_from : (n : ℕ) (ns : List ℕ) → not (list_any (λ m. n == m) ns) ≡ true → AllByRecursion (λ m. eqb n m ≡ false) ns
apart_from n [] h = tt
apart_from n (m ∷ ns) h = go (eqb n m) refl h (apart_from n ns)
  where
    go : (b : Bool) → eqb n m ≡ b → not (b || list_any (λ k. n == k) ns) ≡ true → (not (list_any (λ k. n == k) ns) ≡ true → AllByRecursion (λ k. eqb n k ≡ false) ns)
        → (eqb n m ≡ false) × AllByRecursion (λ k. eqb n k ≡ false) ns
    go true is out again = absurd (cc)
    go false is out again = (is, again out)

pub distinct_from : (ns : List ℕ) → numbers_differ ns ≡ true → IsDistinct eqb ns
unfolding IsDistinct
distinct_from [] h = tt
distinct_from (n ∷ ns) h =
    let parts = both (not (list_any (λ m. n == m) ns)) (numbers_differ ns) h in
    (apart_from n ns parts.0, distinct_from ns parts.1)

module _ (t : Described) (program : Program) where
  pub fit_parts : (a i : ℕ) (w : What) → fits t program a i w ≡ true → (a < actor_count t program) × (is_placed t i ≡ true)
  unfolding fits
  fit_parts a i w h =
      let x = both (nat_lt a (actor_count t program) && is_placed t i) (what_fits t program i w) h in
      let y = both (nat_lt a (actor_count t program)) (is_placed t i) x.0 in
      (lt y.0, y.1)
    where
      lt : nat_lt a (actor_count t program) ≡ true → a < actor_count t program
      lt is = grind (arith, nat_tests)

  -- a history has no entry of an actor that isn't there
  kept_actors : (i : ℕ) (es : List Entry) (s u : InstanceState) → system.InTurn (system.InstanceStep (core t program) i) s es u → (a : ℕ) → actor_count t program ≤ a → by a es ≡ []
  kept_actors i [] s u h a past = refl
  kept_actors i (e ∷ es) s u h a past =
      let g = given t program i e.actor h.1.seen s h.0 h.1.ask e h.1.part in
      let low : e.actor < actor_count t program = (fit_parts e.actor i e.what g.fit).0 in
      projection-other (λ (x : Entry). x.actor) a e es (λ is. absurd (omega (arith, is))) ∙ kept_actors i es h.0 u h.2 a past

  -- a trace has no entry at an instance that isn't in the topology
  told_instances : (a : ℕ) (es : List Entry) (x z : ActorState) → system.InTurn (system.ActorStep (core t program) a) x es z → (i : ℕ) → is_placed t i ≡ false → at i es ≡ []
  told_instances a [] x z h i out = refl
  told_instances a (e ∷ es) x z h i out =
      let k = taken t program a x h.0 e h.1.part in
      let here : is_placed t e.instance ≡ true = subst (λ (n : ℕ). is_placed t n ≡ true) (sym k.instance) (fit_parts a k.asked.0 e.what k.fit).1 in
      projection-other (λ (x : Entry). x.instance) i e es (λ is. not_both (subst (λ (n : ℕ). is_placed t n ≡ true) is here)) ∙ told_instances a es h.0 z h.2 i out
    where
      not_both : is_placed t i ≡ true → ⊥
      not_both in_it = let both_are : true ≡ false = sym in_it ∙ out in absurd (cc)

  module _ (histories traces : List (List Entry)) (records : AreRecords t program histories traces) where
    pub kept_all : (i : ℕ) → IsKept t program i (history t program histories i)
    kept_all i = go (is_placed t i) refl
      where
        go : (b : Bool) → is_placed t i ≡ b → IsKept t program i (history t program histories i)
        go true is = records.kept i is
        go false is = subst (IsKept t program i) (sym (row_absent (placed t) histories i is)) (_, refl)

    pub told_all : (a : ℕ) → IsTold t program a (trace t program traces a)
    told_all a = go (before_or_not a (actor_count t program))
      where
        go : (a < actor_count t program) ⊎ (actor_count t program ≤ a) → IsTold t program a (trace t program traces a)
        go (inl low) = records.told a low
        go (inr past) = subst (IsTold t program a) (sym (row_past traces a (omega (arith, records.actors, past)))) (_, refl)

    entries_all : (i a : ℕ) → by a (history t program histories i) ≡ at i (trace t program traces a)
    entries_all i a = go (is_placed t i) refl (before_or_not a (actor_count t program))
      where
        go : (b : Bool) → is_placed t i ≡ b → (a < actor_count t program) ⊎ (actor_count t program ≤ a) → by a (history t program histories i) ≡ at i (trace t program traces a)
        go true is (inl low) = records.entries i a is low
        go true is (inr past) =
            kept_actors i (history t program histories i) _ (kept_all i).0 (kept_all i).1 a past
            ∙ sym (ap (at i) (row_past traces a (omega (arith, records.actors, past))))
        go false is place =
            ap (by a) (row_absent (placed t) histories i is)
            ∙ sym (told_instances a (trace t program traces a) _ (told_all a).0 (told_all a).1 i is)

    abbrev pub recorded_world : World
    recorded_world = record { instances = λ i. (kept_all i).0; actors = λ a. (told_all a).0 }

    pub mergeable : system.Mergeable (core t program) (history t program histories) (trace t program traces) recorded_world
    mergeable = record { kept = λ i. (kept_all i).1; told = λ a. (told_all a).1; agree = record { entries = entries_all; stamps = records.stamps } }

    pub joined_are : IsDistinct eqb (placed t) → (i : ℕ) → at i (system.joined histories) ≡ history t program histories i
    joined_are distinct i =
        row_of_joined (λ (e : Entry). e.instance) (placed t) histories (omega (arith, records.instances)) distinct
        (λ k. kept_owned (core t program) (core_laws t program) k (history t program histories k) _ (kept_all k).0 (kept_all k).1) i

    module _ (distinct : IsDistinct eqb (placed t)) (es : List Entry) (sorted : IsSortedBy (system.entry_lt (core t program)) es)
        (stable : IsStableBy (system.entry_lt (core t program)) (system.joined histories) es) where
      ordered : NeverFalls (λ (e : Entry). e.stamp) 0 es
      ordered = never_falls (λ (e : Entry). e.stamp) (system.entry_lt (core t program)) (entry_lt-stamps (core t program) (core_laws t program)) es sorted

      pub merged_run : RunTo t program es recorded_world
      merged_run = sorted_run (core t program) (core_laws t program) (history t program histories) (trace t program traces) recorded_world mergeable (system.joined histories) es (joined_are distinct) ordered stable

      pub merged_histories : (i : ℕ) → at i es ≡ history t program histories i
      merged_histories = sorted_histories (core t program) (core_laws t program) (history t program histories) (trace t program traces) recorded_world mergeable (system.joined histories) es (joined_are distinct) ordered stable

      pub merged_traces : (a : ℕ) → by a es ≡ trace t program traces a
      merged_traces = sorted_traces (core t program) (core_laws t program) (history t program histories) (trace t program traces) recorded_world mergeable (system.joined histories) es (joined_are distinct) ordered stable
