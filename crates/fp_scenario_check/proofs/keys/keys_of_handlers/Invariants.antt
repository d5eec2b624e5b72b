use Rattle.std.proofs.Common.{◌≡◌, [], map, take}
use Rattle.fp_scenario.specs.declared.scenario.HandlerText.{HandlerText}
use Rattle.fp_scenario_check.specs.Keys.{texts_of}
use Rattle.fp_scenario_check.proofs.keys.keys_of_handlers.Given as goal

abbrev pub invariant-loop-text : goal.invariant-loop-text
invariant-loop-text l = map texts_of l.keys.items ≡ map (λ (x : HandlerText). (x.of, x.on_, [])) (take l.text-index l.texts)
