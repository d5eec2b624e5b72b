use Rattle.std.proofs.Common.{[], decimal}
use Rattle.fp_scenario.specs.Broken.{below}
use Rattle.fp_scenario_check.proofs.Stopping.{stops_below}
use Rattle.fp_scenario_check.proofs.stops.stop_at_item.Goals as goal

pub returns : goal.returns
returns c =
    stops_below c.args.rule (below (decimal c.args.at) []) c.args.key.now c.stop_under_position-in_list.result c.stop_under_key.result
    (stops_below c.args.rule [] (decimal c.args.at) c.stop_here-here.result c.stop_under_position-in_list.result c.stop_here-here.ensures c.stop_under_position-in_list.ensures) c.stop_under_key.ensures
