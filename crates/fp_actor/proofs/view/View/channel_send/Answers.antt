use Rattle.fp_tables.specs.declared.component.Special.TheVariants as special
use Rattle.fp_actor.proofs.Wired.{one_send}
use Rattle.fp_actor.proofs.view.View.channel_send.Goals as goal

pub returns : goal.returns
returns c = one_send _ _ special.Tlm c.channel_name-name.result.now _ c.sending.ensures (c.channel_name-name.ensures c.args.self.now.program.now)
