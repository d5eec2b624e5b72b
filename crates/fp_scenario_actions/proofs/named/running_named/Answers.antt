use Rattle.fp_scenario_actions.proofs.Narrow.{narrow}
use Rattle.fp_scenario_actions.proofs.named.running_named.Goals as goal

pub narrowed-requires : goal.narrowed-requires
narrowed-requires c = narrow c.args.machines.now c.place_of_running.result c.requires c.place_of_running.ensures.within
