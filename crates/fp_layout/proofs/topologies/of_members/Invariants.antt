use Rattle.std.proofs.Common.{◌≡◌, ◌++◌, flat_map, take}
use Rattle.fp_meaning.specs.Layout.{topology_member_items}
use Rattle.fp_layout.proofs.topologies.of_members.Given as goal

abbrev pub invariant-loop-member : goal.invariant-loop-member
invariant-loop-member l = l.found ≡ l.initial.found ++ flat_map (topology_member_items l.scope) (take l.member-index l.members)
