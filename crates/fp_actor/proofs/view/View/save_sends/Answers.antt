use Rattle.fp_tables.specs.declared.component.Special.TheVariants as special
use Rattle.fp_events.specs.Follows.{ok_note}
use Rattle.fp_actor.proofs.Wired.{two_sends}
use Rattle.fp_actor.proofs.view.View.save_sends.Goals as goal

pub returns : goal.returns
returns c =
    two_sends _ _ _ _ special.PrmSet special.CmdResp c.parameter_name-name.result.now _ ok_note
    c.sending.ensures (c.parameter_name-name.ensures c.args.self.now.program.now) c.sending-2.ensures
