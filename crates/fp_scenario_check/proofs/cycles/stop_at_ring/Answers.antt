use Rattle.std.proofs.Common.{ℕ, codes, decimal, subst}
use Rattle.fp_scenario.specs.Broken.{below}
use Rattle.fp_scenario.specs.Checked.{Stops}
use Rattle.fp_scenario_check.specs.Planned.{handler_path, action_path}
use Rattle.fp_scenario_check.proofs.Stopping.{stops_below}
use Rattle.fp_scenario_check.proofs.cycles.stop_at_ring.Goals as goal

pub returns : goal.returns
returns c = λ m found.
    let at = c.text_of-at.result in
    let path = action_path c.args.ring.action in
    subst (λ (n : ℕ). Stops c.args.rule (handler_path n path) c.stop_under_key.result) (c.text_of-at.ensures m found)
    (stops_below c.args.rule (below (decimal at) path) (codes "handlers") c.stop_under_position-in_handler.result c.stop_under_key.result
    (stops_below c.args.rule path (decimal at) c.stop_in_list-in_list.result c.stop_under_position-in_handler.result c.stop_in_list-in_list.ensures c.stop_under_position-in_handler.ensures) c.stop_under_key.ensures)
