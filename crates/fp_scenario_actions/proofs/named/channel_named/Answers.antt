use Rattle.fp_scenario_actions.proofs.Narrow.{narrow}
use Rattle.fp_scenario_actions.proofs.named.channel_named.Goals as goal

pub narrowed-requires : goal.narrowed-requires
narrowed-requires c = narrow c.args.channels.now c.place_of_channel.result c.requires c.place_of_channel.ensures.within
