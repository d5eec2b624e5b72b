use Rattle.std.proofs.Common.{◌≡◌, ◌++◌, take}
use Rattle.std.specs.Prelude.{flat_map}
use Rattle.fp_listing.specs.Members.{channel_line}
use Rattle.fp_listing.proofs.members.push_channels.Given as goal

abbrev pub invariant-loop-channel : goal.invariant-loop-channel
invariant-loop-channel l = l.out ≡ l.initial.out ++ flat_map (channel_line l.model) (take l.channel-index l.channels)
