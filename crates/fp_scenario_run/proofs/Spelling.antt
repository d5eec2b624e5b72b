-- A text spells scenarios that can't be told apart, so that what holds of one of them holds of the text.
use Rattle.std.proofs.Common.{◌≡◌, ℕ, List, Ok, Err, Result, IfErr, IsErrAnd, inl, inr, sym, ◌∙◌, subst}
use Rattle.serde_json.specs.Data.{Data}
use Rattle.fp_base.specs.declared.rule.Rule.{Rule}
use Rattle.fp_base.proofs.Options.{same_some}
use Rattle.fp_tables.specs.Lookup.{Described}
use Rattle.fp_scenario.specs.Broken.{Reads}
use Rattle.fp_scenario.specs.Same.{IsSame}
use Rattle.fp_scenario.specs.Spelled.{Spells}
use Rattle.fp_scenario.specs.declared.scenario.Scenario.{Scenario}
use Rattle.fp_scenario.specs.declared.scenario.ScenarioStop.{ScenarioStop}
use Rattle.fp_scenario.specs.declared.scenario.ScenarioStop.TheVariants.{Broken, NoMemory}
use Rattle.fp_scenario.specs.Checked.{IsRefusal as IsTextRefusal}
use Rattle.fp_scenario_check.specs.Broken.{BreaksNothing, IsRefusal}
use Rattle.fp_scenario_run.specs.Planned.{IsSpelled, IsTextWhole, BreaksRule, IsRefused}
use Rattle.fp_scenario_run.proofs.Alike.{broken_alike}

one_value : (text : List ℕ) (d e : Data) → Reads text d → Reads text e → d ≡ e
one_value text d e h k = same_some (sym h.1 ∙ k.1)

-- what a value spells can't be told apart
abbrev pub SpellsAlike : Type 0
SpellsAlike = (d : Data) (a b : Scenario) → Spells d a → Spells d b → IsSame a b

module _ (t : Described) (text : List ℕ) where
  pub none_broken : (scenario : Scenario) → SpellsAlike → IsSpelled text scenario → IsTextWhole text → BreaksNothing t scenario → (rule : Rule) (path : List ℕ) → BreaksRule t text rule path → ⊥
  none_broken scenario one spelled whole nothing rule path (inl h) = whole rule path h
  none_broken scenario one spelled whole nothing rule path (inr (h, other, so, broken)) =
      let same : IsSame other scenario = one spelled.0 other scenario (subst (λ d. Spells d other) (one_value text so.0 spelled.0 so.1 spelled.1) so.2) spelled.2 in
      nothing rule path (broken_alike t other scenario same rule path broken)

  -- a rule of the text alone
  pub text_refused : (stop : ScenarioStop) → IsTextRefusal text stop → IsRefused t text stop
  text_refused (Broken stop) h = inl h
  text_refused NoMemory h = tt

  -- a rule on what the scenario means
  pub scenario_refused : (scenario : Scenario) (stop : ScenarioStop) → IsSpelled text scenario → IsTextWhole text → IsRefusal t scenario stop → IsRefused t text stop
  scenario_refused scenario (Broken stop) spelled whole h = inr (whole, scenario, spelled, h)
  scenario_refused scenario NoMemory spelled whole h = tt

-- the error that is handed on, in the same tables
pub refused_by : {A : Type 0} (t u : Described) (text : List ℕ) (r : Result A ScenarioStop) (stop : ScenarioStop) → t ≡ u → IsErrAnd r (λ y. y ≡ stop) → IsRefused t text stop → IfErr r (IsRefused u text)
refused_by t u text (Ok a) stop same e h = tt
refused_by t u text (Err y) stop same e h = subst (λ (v : Described). IsRefused v text y) same (subst (λ s. IsRefused t text s) (sym e) h)
