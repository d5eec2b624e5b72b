use Rattle.std.proofs.Common.{◌≡◌, ◌&&◌, not, filter, take}
use Rattle.fp_scenario.specs.declared.scenario.Scenario.{Scenario}
use Rattle.fp_scenario_check.specs.Planned.{is_of, has_own}
use Rattle.fp_scenario_check.specs.Keys.{AreOwned}
use Rattle.fp_scenario_check.proofs.standing.instances_among.Given as goal

abbrev pub invariant-loop-instance : goal.invariant-loop-instance
invariant-loop-instance l =
    (scenario : Scenario) → AreOwned l.tables scenario l.owned → l.found.items ≡ filter (λ i. is_of l.tables l.text.of i && not (has_own l.tables scenario l.text.on_ i)) (take l.instance-index l.instances)
