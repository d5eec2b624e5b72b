use Rattle.std.proofs.Common.{[], codes}
use Rattle.fp_scenario_check.proofs.Stopping.{stops_below}
use Rattle.fp_scenario_check.proofs.stops.stop_at_list.Goals as goal

pub returns : goal.returns
returns c = stops_below c.args.rule [] (codes "do") c.stop_here-here.result c.stop_under_key.result c.stop_here-here.ensures c.stop_under_key.ensures
