use Rattle.std.proofs.Common.{sym, ap, ◌∙◌}
use Rattle.fp_scenario_check.specs.Planned.{component_named}
use Rattle.fp_scenario_check.proofs.Found.{found_short}
use Rattle.fp_scenario_check.proofs.standing.names_nothing.Goals as goal

pub spot_in-requires-clause-here : goal.spot_in-requires-clause-here
spot_in-requires-clause-here c = found_short c.args.tables.now.model _ c.in-Some.component.now c.requires (sym c.in-Some.ensures)
