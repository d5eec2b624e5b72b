-- The text that gave a handler of the program, by how many each text gave.
use Rattle.std.proofs.Common.{◌≡◌, ◌<◌, ◌≤◌, ◌-◌, ◌+◌, ℕ, zero, suc, List, [], ◌∷◌, ◌++◌, length, drop, get_or, length-append, map, flat_map, replicate, Some, slice_get, refl, sym, ap, ap₂, ◌∙◌, subst, arith}
use Rattle.std.proofs.lemmas.List.{length-map}
use Rattle.fp_base.proofs.Spots.{item_beside}
use Rattle.fp_base.specs.declared.rule.Rule.{Rule}
use Rattle.fp_base.specs.declared.rule.Rule.TheVariants.{SynchronousCycle, LockCycle}
use Rattle.fp_base.proofs.Lists.{drop_over, same_default}
use Rattle.fp_base.proofs.Options.{no_some, same_some}
use Rattle.fp_tables.specs.Lookup.{Described}
use Rattle.fp_tables.specs.declared.program.Handler.{Handler}
use Rattle.fp_tables.specs.declared.program.Program.{Program}
use Rattle.fp_reach.specs.Cycles.{IsCycle}
use Rattle.fp_reach.specs.declared.cycles.Cycle.TheVariants.{Synchronous, Locks}
use Rattle.fp_reach.specs.declared.cycles.Ring.{Ring}
use Rattle.fp_scenario.specs.Checked.{Stops}
use Rattle.fp_scenario.specs.declared.scenario.Scenario.{Scenario}
use Rattle.fp_scenario.specs.declared.scenario.HandlerText.{HandlerText}
use Rattle.fp_scenario.specs.declared.scenario.ScenarioStop.{ScenarioStop}
use Rattle.fp_scenario.specs.declared.scenario.ScenarioStop.TheVariants.{Broken, NoMemory}
use Rattle.fp_scenario_actions.proofs.Listed.{dropped}
use Rattle.fp_scenario_check.specs.Planned.{Planned, PlansHandler, at_each, pairs, stands_for, handler_path, action_path}
use Rattle.fp_scenario_check.specs.Broken.{BreaksCycle, texts_from, synchronous, of_locks}
use Rattle.fp_scenario_check.proofs.Beside.{as_many}
use Rattle.fp_scenario_check.specs.Faults.{IsStop, counts, texts_counted}

-- ---- within the counts

within_count : (k n : ℕ) (ys : List ℕ) (i : ℕ) → i < k → slice_get (replicate k n ++ ys) i ≡ Some n
within_count zero n ys i lt = absurd (omega arith)
within_count (suc k) n ys zero lt = refl
within_count (suc k) n ys (suc i) lt = within_count k n ys i (omega arith)

past_count : (k n : ℕ) (ys : List ℕ) (i j : ℕ) → i ≡ k + j → slice_get (replicate k n ++ ys) i ≡ slice_get ys j
past_count zero n ys i j e = let same : i ≡ j = omega (arith, e) in ap (slice_get ys) same
past_count (suc k) n ys zero j e = absurd (omega (arith, e))
past_count (suc k) n ys (suc i) j e = let same : i ≡ k + j = omega (arith, e) in past_count k n ys i j same

abbrev pub Leaves : List ℕ → ℕ → ℕ → ℕ → Type 0
Leaves ks handler at left = (m : ℕ) → slice_get (texts_counted 0 ks) handler ≡ Some m → slice_get (texts_counted at (drop at ks)) left ≡ Some m

counted_at : (ks : List ℕ) (at k d : ℕ) → at < length ks → k ≡ get_or ks at d → texts_counted at (drop at ks) ≡ replicate k at ++ texts_counted (at + 1) (drop (at + 1) ks)
counted_at ks at k d lt is = ap (texts_counted at) (dropped ks at k lt (is ∙ same_default ks at d k lt)) ∙ ap (λ n. replicate k at ++ texts_counted n (drop (at + 1) ks)) (one_more at)
  where
    one_more : (n : ℕ) → suc n ≡ n + 1
    one_more n = omega arith

pub text_found : (ks : List ℕ) (handler at left k d m : ℕ) → at < length ks → k ≡ get_or ks at d → left < k → Leaves ks handler at left → slice_get (texts_counted 0 ks) handler ≡ Some m → at ≡ m
text_found ks handler at left k d m lt is here h found =
    same_some (sym (within_count k at (texts_counted (at + 1) (drop (at + 1) ks)) left here) ∙ ap (λ xs. slice_get xs left) (sym (counted_at ks at k d lt is)) ∙ h m found)

pub text_further : (ks : List ℕ) (handler at left k d : ℕ) → at < length ks → k ≡ get_or ks at d → k ≤ left → Leaves ks handler at left → Leaves ks handler (at + 1) (left - k)
text_further ks handler at left k d lt is past h = λ m found.
    let split : left ≡ k + (left - k) = omega (arith, past) in
    sym (past_count k at (texts_counted (at + 1) (drop (at + 1) ks)) left (left - k) split) ∙ ap (λ xs. slice_get xs left) (sym (counted_at ks at k d lt is)) ∙ h m found

pub no_text : (ks : List ℕ) (handler at left m : ℕ) → length ks ≤ at → Leaves ks handler at left → slice_get (texts_counted 0 ks) handler ≡ Some m → ⊥
no_text ks handler at left m past h found = no_some (sym (ap (λ xs. slice_get (texts_counted at xs) left) (drop_over ks at past)) ∙ h m found)

-- ---- the handlers of a planned program have texts

module _ (t : Described) (scenario : Scenario) where
  copies : (n : ℕ) (is_ : List ℕ) → map (λ i. n) is_ ≡ replicate (length is_) n
  copies n [] = refl
  copies n (i ∷ is_) = ap (λ (xs : List ℕ). n ∷ xs) (copies n is_)

  texts_same : (n : ℕ) (hs : List HandlerText) → texts_from t scenario n hs ≡ texts_counted n (counts t scenario hs)
  texts_same n [] = refl
  texts_same n (h ∷ hs) = ap₂ (λ (xs ys : List ℕ). xs ++ ys) (copies n (stands_for t scenario h)) (texts_same (suc n) hs)

  abbrev at_one : HandlerText → ℕ → HandlerText × ℕ
  at_one h i = (h, i)

  as_many_texts : (n : ℕ) (hs : List HandlerText) → length (texts_from t scenario n hs) ≡ length (flat_map (at_each t scenario) hs)
  as_many_texts n [] = refl
  as_many_texts n (h ∷ hs) =
      length-append (map (λ i. n) (stands_for t scenario h)) (texts_from t scenario (suc n) hs)
      ∙ ap₂ (λ (x y : ℕ). x + y) (length-map (stands_for t scenario h) (λ (i : ℕ). n) ∙ sym (length-map (stands_for t scenario h) (at_one h))) (as_many_texts (suc n) hs)
      ∙ sym (length-append (at_each t scenario h) (flat_map (at_each t scenario) hs))

  text_of_handler : (program : Program) (n : ℕ) (h : Handler) → Planned t scenario program → slice_get program.handlers n ≡ Some h → (m : ℕ) × (slice_get (texts_from t scenario 0 scenario.handlers) n ≡ Some m)
  text_of_handler program n h planned found =
      item_beside (texts_from t scenario 0 scenario.handlers) program.handlers
      (as_many (PlansHandler t) (pairs t scenario) program.handlers planned.handlers ∙ sym (as_many_texts 0 scenario.handlers)) n h found

-- ---- stops at an action on a cycle

abbrev pub RingStops : Rule → Ring → List ℕ → ScenarioStop → Type 0
RingStops rule ring ks stop = (m : ℕ) → slice_get (texts_counted 0 ks) ring.handler ≡ Some m → Stops rule (handler_path m (action_path ring.action)) stop

module _ (t : Described) (program : Program) (ks : List ℕ) where
  abbrev pub CycleFault : Rule → List ℕ → Type 0
  CycleFault rule path = (scenario : Scenario) → Planned t scenario program → ks ≡ counts t scenario scenario.handlers → BreaksCycle t scenario program rule path

  ring_stops : (rule : Rule) (ring : Ring) (h : Handler) (stop : ScenarioStop) → slice_get program.handlers ring.handler ≡ Some h
      → ((scenario : Scenario) (m : ℕ) → slice_get (texts_from t scenario 0 scenario.handlers) ring.handler ≡ Some m → BreaksCycle t scenario program rule (handler_path m (action_path ring.action)))
      → RingStops rule ring ks stop → IsStop CycleFault stop
  ring_stops rule ring h NoMemory here breaks stops = tt
  ring_stops rule ring h (Broken stop) here breaks stops = λ scenario planned counted.
      let text = text_of_handler t scenario program ring.handler h planned here in
      let is = stops text.0 (ap (λ xs. slice_get (texts_counted 0 xs) ring.handler) counted ∙ ap (λ xs. slice_get xs ring.handler) (sym (texts_same t scenario 0 scenario.handlers)) ∙ text.1) in
      subst (λ r. BreaksCycle t scenario program r stop.path) (sym is.0)
      (subst (λ p. BreaksCycle t scenario program rule p) (sym is.1) (breaks scenario text.0 text.1))

  pub synchronous_stops : (ring : Ring) (stop : ScenarioStop) → IsCycle t program (Some (Synchronous ring)) → RingStops SynchronousCycle ring ks stop → IsStop CycleFault stop
  synchronous_stops ring stop (h, a, acts, on) stops = ring_stops SynchronousCycle ring h stop acts.handler (λ scenario m text. synchronous ring.handler ring.action m h a acts on text) stops

  pub locks_stop : (ring : Ring) (stop : ScenarioStop) → IsCycle t program (Some (Locks ring)) → RingStops LockCycle ring ks stop → IsStop CycleFault stop
  locks_stop ring stop (none, (h, a, acts, on)) stops = ring_stops LockCycle ring h stop acts.handler (λ scenario m text. of_locks ring.handler ring.action m h a acts on text) stops
