use Rattle.fp_listing.specs.Members.{channel_line}
use Rattle.fp_logtext.proofs.Pushed.{one_item}
use Rattle.fp_listing.proofs.members.push_channels.Goals as goal

pub loop-channel-preserved : goal.loop-channel-preserved
loop-channel-preserved c =
    one_item (channel_line c.args.model.now) c.args.channels.now c.loop-channel.channel-index c.channel-item.result c.loop-channel-test.true c.channel-item.is c.args.out.now c.loop-channel.out c.push_channel.new.out
    c.loop-channel.invariant c.in_ok-push_channel.ensures
