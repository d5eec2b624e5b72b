-- Handlers at all their instances, a text at a time.
use Rattle.std.proofs.Common.{◌≡◌, ◌<◌, ◌≤◌, ◌⊎◌, inl, inr, ℕ, ◌+◌, List, [], ◌∷◌, ◌++◌, length, get_or, take, map, flat_map, Option, Some, None, slice_get, refl, sym, ap, ◌∙◌, subst, arith}
use Rattle.std.proofs.lemmas.List.{take_more, take_all, map-append, length-map}
use Rattle.std.proofs.lemmas.Option.{slice_get_within}
use Rattle.std.specs.BTreeSet.{BTreeSet}
use Rattle.fp_base.proofs.Lists.{get_at}
use Rattle.fp_base.proofs.Options.{same_some}
use Rattle.fp_base.proofs.Spots.{below_or_at}
use Rattle.fp_tables.specs.Lookup.{Described}
use Rattle.fp_tables.specs.declared.program.Handler.{Handler}
use Rattle.fp_scenario.specs.declared.scenario.Scenario.{Scenario}
use Rattle.fp_scenario.specs.declared.scenario.HandlerText.{HandlerText}
use Rattle.fp_scenario_check.specs.Planned.{Pairwise, PlansHandler, at_each, stands_for}
use Rattle.fp_scenario_check.proofs.Beside.{as_many}
use Rattle.fp_scenario_check.specs.Faults.{IdleFault, counts}
use Rattle.fp_scenario_check.specs.Keys.{Owned, AreOwned}
use Rattle.fp_scenario_check.proofs.Pairing.{beside_flat, beside_flat_whole}

abbrev pub at_one : HandlerText → ℕ → HandlerText × ℕ
at_one h i = (h, i)

module _ (t : Described) (owned : BTreeSet Owned) (texts : List HandlerText) where
  pub record Handles (scenario : Scenario) (at : ℕ) (handlers : List Handler) (ks : List ℕ) : Type 0 where
    pub planned : Pairwise (PlansHandler t) (flat_map (at_each t scenario) (take at texts)) handlers
    pub counted : ks ≡ counts t scenario (take at texts)
    pub known : (n : ℕ) (h : HandlerText) → n < at → slice_get texts n ≡ Some h → IdleFault t h (stands_for t scenario h) → ⊥

  abbrev pub HandlesAll : ℕ → List Handler → List ℕ → Type 0
  HandlesAll at handlers ks = (scenario : Scenario) → AreOwned t scenario owned → Handles scenario at handlers ks

  pub handles_none : (handlers : List Handler) (ks : List ℕ) → handlers ≡ [] → ks ≡ [] → HandlesAll 0 handlers ks
  handles_none handlers ks no_handlers no_counts = λ scenario owns. record {
    planned = subst (λ (hs : List Handler). Pairwise (PlansHandler t) [] hs) (sym no_handlers) tt;
    counted = no_counts;
    known = λ n h lt. let low : n < 0 = lt in absurd (omega arith);
  }

  pub handles_more : (at : ℕ) (x y : HandlerText) (handlers more handlers' : List Handler) (ks ks' : List ℕ) → at < length texts → x ≡ get_or texts at y
      → ((scenario : Scenario) → AreOwned t scenario owned → Pairwise (PlansHandler t) (at_each t scenario x) more)
      → ((scenario : Scenario) → AreOwned t scenario owned → IdleFault t x (stands_for t scenario x) → ⊥)
      → handlers' ≡ handlers ++ more → ks' ≡ ks ++ length more ∷ [] → HandlesAll at handlers ks → HandlesAll (at + 1) handlers' ks'
  handles_more at x y handlers more handlers' ks ks' within is plan knows grown counts_grown before = λ scenario owns.
      let h = before scenario owns in
      let size : length more ≡ length (stands_for t scenario x) = as_many (PlansHandler t) (at_each t scenario x) more (plan scenario owns) ∙ length-map (stands_for t scenario x) (at_one x) in
      let longer : take (at + 1) texts ≡ take at texts ++ x ∷ [] = take_more texts at y within ∙ ap (λ v. take at texts ++ v ∷ []) (sym is) in
      record {
        planned = beside_flat (PlansHandler t) (at_each t scenario) texts at x y handlers more handlers' within is h.planned (plan scenario owns) grown;
        counted = counts_grown ∙ ap (λ (js : List ℕ). js ++ length more ∷ []) h.counted ∙ ap (λ (n : ℕ). counts t scenario (take at texts) ++ n ∷ []) size
            ∙ sym (map-append (λ (g : HandlerText). length (stands_for t scenario g)) (take at texts) (x ∷ [])) ∙ ap (counts t scenario) (sym longer);
        known = λ n g lt found. by_place scenario owns h n g found (below_or_at n at lt);
      }
    where
      by_place : (scenario : Scenario) → AreOwned t scenario owned → Handles scenario at handlers ks → (n : ℕ) (g : HandlerText) → slice_get texts n ≡ Some g → (n < at) ⊎ (n ≡ at) → IdleFault t g (stands_for t scenario g) → ⊥
      by_place scenario owns h n g found (inl lt) = h.known n g lt found
      by_place scenario owns h n g found (inr same) =
          let one : x ≡ g = same_some (sym (get_at texts at x y within is) ∙ ap (slice_get texts) (sym same) ∙ found) in
          subst (λ z. IdleFault t z (stands_for t scenario z) → ⊥) one (knows scenario owns)

  pub handles_whole : (at : ℕ) (handlers : List Handler) (ks : List ℕ) → length texts ≤ at → HandlesAll at handlers ks → (scenario : Scenario) → AreOwned t scenario owned
      → Pairwise (PlansHandler t) (flat_map (at_each t scenario) texts) handlers × (ks ≡ counts t scenario texts) × ((n : ℕ) (h : HandlerText) → slice_get texts n ≡ Some h → IdleFault t h (stands_for t scenario h) → ⊥)
  handles_whole at handlers ks past h scenario owns =
      let all = h scenario owns in (
        beside_flat_whole (PlansHandler t) (at_each t scenario) texts at handlers past all.planned,
        all.counted ∙ ap (counts t scenario) (take_all at texts past),
        λ n g found. all.known n g (within n g found) found,
      )
    where
      within : (n : ℕ) (g : HandlerText) → slice_get texts n ≡ Some g → n < at
      within n g found = let lt : n < length texts = slice_get_within texts n g found in omega arith
