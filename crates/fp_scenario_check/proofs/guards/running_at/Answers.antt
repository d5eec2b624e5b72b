use Rattle.std.proofs.Common.{sym}
use Rattle.fp_scenario_actions.proofs.Halting.{component_short}
use Rattle.fp_scenario_actions.proofs.Narrow.{are_short}
use Rattle.fp_scenario_check.proofs.guards.running_at.Goals as goal

pub running_named-requires : goal.running_named-requires
running_named-requires c =
    let d = c.in-Some.component.now in
    let found = sym c.in-Some.ensures in
    rw c.as_slice.ensures ((are_short d (component_short c.args.tables.now.model c.args.instance d c.requires found)).machines)
