use Rattle.std.proofs.Common.{◌≡◌, map, take}
use Rattle.fp_scenario.specs.declared.scenario.GuardText.{GuardText}
use Rattle.fp_scenario_check.specs.Keys.{texts_of}
use Rattle.fp_scenario_check.proofs.keys.keys_of_guards.Given as goal

abbrev pub invariant-loop-text : goal.invariant-loop-text
invariant-loop-text l = map texts_of l.keys.items ≡ map (λ (x : GuardText). (x.of, x.machine, x.guard)) (take l.text-index l.texts)
