use Rattle.std.proofs.Common.{sym}
use Rattle.fp_scenario_actions.proofs.Halting.{component_short}
use Rattle.fp_scenario_actions.proofs.Narrow.{are_short}
use Rattle.fp_scenario_actions.proofs.calling.input_at.Goals as goal

pub general_input_named-requires : goal.general_input_named-requires
general_input_named-requires c =
    let d = c.in-Some.component.now in
    let found = sym c.in-Some.ensures in
    rw c.as_slice.ensures ((are_short d (component_short c.args.tables.now.model c.args.instance d c.requires found)).ports)
