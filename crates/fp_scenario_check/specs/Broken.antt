-- The rules on cycles, read of the program that a scenario stands for, and what a scenario is refused for. Scenarios are this profile's own.
use Rattle.std.specs.Prelude.{◌≡◌, ◌⊎◌, ℕ, suc, List, [], ◌∷◌, ◌++◌, map, Some, slice_get, ⊤}
use Rattle.fp_base.specs.declared.rule.Rule.{Rule}
use Rattle.fp_base.specs.declared.rule.Rule.TheVariants.{SynchronousCycle, LockCycle}
use Rattle.fp_tables.specs.Lookup.{Described}
use Rattle.fp_tables.specs.declared.program.Act.{Act}
use Rattle.fp_tables.specs.declared.program.Handler.{Handler}
use Rattle.fp_tables.specs.declared.program.Program.{Program}
use Rattle.fp_reach.specs.Cycles.{Acts, IsOnCycle, IsOnLockCycle}
use Rattle.fp_scenario.specs.declared.scenario.Scenario.{Scenario}
use Rattle.fp_scenario.specs.declared.scenario.HandlerText.{HandlerText}
use Rattle.fp_scenario.specs.declared.scenario.ScenarioStop.{ScenarioStop}
use Rattle.fp_scenario.specs.declared.scenario.ScenarioStop.TheVariants.{Broken, NoMemory}
use Rattle.fp_scenario_check.specs.Planned.{stands_for, handler_path, action_path, Planned, Breaks}

module _ (t : Described) (scenario : Scenario) where
  -- the position of the text of each handler of the program, the first text having the number
  abbrev pub texts_from : ℕ → List HandlerText → List ℕ
  texts_from n [] = []
  texts_from n (h ∷ hs) = map (λ i. n) (stands_for t scenario h) ++ texts_from (suc n) hs

  -- an action of a handler of the program is on a cycle of handlers, or of guards and turns
  pub data BreaksCycle (program : Program) : Rule → List ℕ → Type 0 where
    synchronous : (n k m : ℕ) (h : Handler) (a : Act) → Acts t program n k h a → IsOnCycle t program h a → slice_get (texts_from 0 scenario.handlers) n ≡ Some m → BreaksCycle program SynchronousCycle (handler_path m (action_path k))
    of_locks : (n k m : ℕ) (h : Handler) (a : Act) → Acts t program n k h a → IsOnLockCycle t program h a → slice_get (texts_from 0 scenario.handlers) n ≡ Some m → BreaksCycle program LockCycle (handler_path m (action_path k))

  -- cycles are looked for where no other rule is broken, which is where the scenario stands for a program
  abbrev pub IsScenarioBroken : Rule → List ℕ → Type 0
  IsScenarioBroken rule path = Breaks t scenario rule path ⊎ ((program : Program) × Planned t scenario program × BreaksCycle program rule path)

  -- no rule is broken, at no path
  abbrev pub BreaksNothing : Type 0
  BreaksNothing = (rule : Rule) (path : List ℕ) → IsScenarioBroken rule path → ⊥

  -- want of memory, or a rule that is broken at the path
  abbrev pub IsRefusal : ScenarioStop → Type 0
  IsRefusal (Broken stop) = IsScenarioBroken stop.rule stop.path
  IsRefusal NoMemory = ⊤
