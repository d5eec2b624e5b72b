use Rattle.fp_scenario_actions.proofs.Narrow.{narrow}
use Rattle.fp_scenario_actions.proofs.named.port_named.Goals as goal

pub narrowed-requires : goal.narrowed-requires
narrowed-requires c = narrow c.args.ports.now c.place_of_port.result c.requires c.place_of_port.ensures.within
