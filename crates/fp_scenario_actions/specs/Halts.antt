-- Why an action, a list or a scenario isn't planned.
use Rattle.std.specs.Prelude.{⊤}
use Rattle.fp_base.specs.declared.rule.Rule.{Rule}
use Rattle.fp_scenario_actions.specs.declared.halt.Halt.{Halt}
use Rattle.fp_scenario_actions.specs.declared.halt.Halt.TheVariants.{Broken, NoMemory}

-- want of memory, or a rule of which this holds
abbrev pub IsHalt : (Rule → Type 0) → Halt → Type 0
IsHalt breaks (Broken rule) = breaks rule
IsHalt breaks NoMemory = ⊤
