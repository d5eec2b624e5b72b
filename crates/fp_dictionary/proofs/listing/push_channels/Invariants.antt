use Rattle.std.proofs.Common.{◌≡◌, ◌++◌, take}
use Rattle.std.specs.Prelude.{map}
use Rattle.fp_tables.specs.declared.component.Channel.{Channel}
use Rattle.fp_dictionary.proofs.listing.push_channels.Given as goal

abbrev pub invariant-loop-channel : goal.invariant-loop-channel
invariant-loop-channel l = l.kinds ≡ l.initial.kinds ++ map (λ (t : Channel). t.kind) (take l.channel-index l.channels)
