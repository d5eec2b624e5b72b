use Rattle.std.proofs.Common.{◌≡◌, ◌++◌, flat_map, take}
use Rattle.fp_gather.specs.gathering.Includes.{inclusions_in_topology_member}
use Rattle.fp_gather.proofs.gathering.including.of_topology.Given as goal

abbrev pub invariant-loop-member : goal.invariant-loop-member
invariant-loop-member l = l.found ≡ l.initial.found ++ flat_map inclusions_in_topology_member (take l.member-index l.members)
