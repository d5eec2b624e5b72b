-- The program of a scenario's text, and the rules that a text breaks. FPP has no standard for scenarios. This profile:
use Rattle.std.specs.Prelude.{◌⊎◌, ℕ, List, ⊤}
use Rattle.serde_json.specs.Data.{Data}
use Rattle.fp_base.specs.declared.rule.Rule.{Rule}
use Rattle.fp_tables.specs.Lookup.{Described}
use Rattle.fp_tables.specs.declared.program.Program.{Program}
use Rattle.fp_scenario.specs.Broken.{Reads, IsTextBroken}
use Rattle.fp_scenario.specs.Spelled.{Spells}
use Rattle.fp_scenario.specs.declared.scenario.Scenario.{Scenario}
use Rattle.fp_scenario.specs.declared.scenario.ScenarioStop.{ScenarioStop}
use Rattle.fp_scenario.specs.declared.scenario.ScenarioStop.TheVariants.{Broken, NoMemory}
use Rattle.fp_scenario_check.specs.Planned.{Planned}
use Rattle.fp_scenario_check.specs.Broken.{IsScenarioBroken}

-- the text is JSON whose value spells the scenario
abbrev pub IsSpelled : List ℕ → Scenario → Type 0
IsSpelled text scenario = (d : Data) × Reads text d × Spells d scenario

-- no rule of the text alone is broken, at no path
abbrev pub IsTextWhole : List ℕ → Type 0
IsTextWhole text = (rule : Rule) (path : List ℕ) → IsTextBroken text rule path → ⊥

module _ (t : Described) where
  -- the program is what a scenario stands for in the tables, and the text spells that scenario
  abbrev pub IsProgramOf : List ℕ → Program → Type 0
  IsProgramOf text program = (scenario : Scenario) × IsSpelled text scenario × Planned t scenario program

  -- the rules of the text alone come first: those on what the scenario means in the tables are looked at where none of them is broken, which is where
  -- the text spells a scenario
  abbrev pub BreaksRule : List ℕ → Rule → List ℕ → Type 0
  BreaksRule text rule path = IsTextBroken text rule path ⊎ (IsTextWhole text × (scenario : Scenario) × IsSpelled text scenario × IsScenarioBroken t scenario rule path)

  -- no rule is broken, at no path
  abbrev pub BreaksNoRule : List ℕ → Type 0
  BreaksNoRule text = (rule : Rule) (path : List ℕ) → BreaksRule text rule path → ⊥

  -- want of memory, or a rule that is broken at the path
  abbrev pub IsRefused : List ℕ → ScenarioStop → Type 0
  IsRefused text (Broken stop) = BreaksRule text stop.rule stop.path
  IsRefused text NoMemory = ⊤
