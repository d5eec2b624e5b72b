use Rattle.fp_scenario_actions.proofs.Narrow.{narrow}
use Rattle.fp_scenario_actions.proofs.named.name_of.Goals as goal

pub narrowed-requires : goal.narrowed-requires
narrowed-requires c = narrow c.args.names.now c.place_of_name.result c.requires c.place_of_name.ensures.within
