use Rattle.std.proofs.Common.{◌≡◌, flat_map, take}
use Rattle.fp_dictdefs.specs.Listed.{channels_in, commands_in, events_in, params_in}
use Rattle.fp_dictdefs.proofs.listed.lists_of.Given as goal

abbrev pub invariant-loop-member : goal.invariant-loop-member
invariant-loop-member l =
    (l.lists.commands ≡ flat_map commands_in (take l.member-index l.members))
    × (l.lists.events ≡ flat_map events_in (take l.member-index l.members))
    × (l.lists.channels ≡ flat_map channels_in (take l.member-index l.members))
    × (l.lists.params ≡ flat_map params_in (take l.member-index l.members))
