use Rattle.std.proofs.Common.{◌≡◌, true, take}
use Rattle.std.specs.List.{list_all}
use Rattle.fp_tables.specs.Components.{has_good_limits}
use Rattle.fp_sound_model.proofs.channels.limits_are_good.Given as goal

abbrev pub invariant-loop-channel : goal.invariant-loop-channel
invariant-loop-channel l = list_all (has_good_limits l.types) (take l.channel-index l.channels) ≡ true
