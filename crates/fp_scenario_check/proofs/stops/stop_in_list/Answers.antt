use Rattle.std.proofs.Common.{[], codes, decimal, sym, subst}
use Rattle.fp_scenario.specs.Broken.{below}
use Rattle.fp_scenario_check.specs.Faults.{StopsInList}
use Rattle.fp_scenario_check.proofs.Stopping.{stops_below}
use Rattle.fp_scenario_check.proofs.stops.stop_in_list.Goals as goal

pub returns-in-Broken : goal.returns-in-Broken
returns-in-Broken c =
    subst (λ h. StopsInList h c.stop_under_key.result) (sym c.in-Broken.is)
    (stops_below c.in-Broken.rule (below (decimal c.in-Broken.at) []) (codes "do") c.stop_under_position-in_list.result c.stop_under_key.result
    (stops_below c.in-Broken.rule [] (decimal c.in-Broken.at) c.stop_here-here.result c.stop_under_position-in_list.result c.stop_here-here.ensures c.stop_under_position-in_list.ensures) c.stop_under_key.ensures)
