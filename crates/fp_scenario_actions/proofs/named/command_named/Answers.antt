use Rattle.fp_scenario_actions.proofs.Narrow.{narrow}
use Rattle.fp_scenario_actions.proofs.named.command_named.Goals as goal

pub narrowed-requires : goal.narrowed-requires
narrowed-requires c = narrow c.args.commands.now c.place_of_command.result c.requires c.place_of_command.ensures.within
