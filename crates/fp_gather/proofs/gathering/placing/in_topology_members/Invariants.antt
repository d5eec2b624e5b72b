use Rattle.std.proofs.Common.{◌≡◌, ◌++◌, map}
use Rattle.std.specs.Vec.Iter.{into_iter_items}
use Rattle.fp_gather.specs.gathering.Includes.{in_turn, placed_topology_member}
use Rattle.fp_gather.proofs.gathering.placing.in_topology_members.Given as goal

-- what stands so far and what stands in place of the members that are left
abbrev pub invariant-loop-member : goal.invariant-loop-member
invariant-loop-member l =
    let behind = in_turn (map placed_topology_member (into_iter_items l.member-iterator)) (into_iter_items l.inserts) in
    in_turn (map placed_topology_member l.fn.members) (into_iter_items l.initial.inserts) ≡ record { items = l.out ++ behind.items; left = behind.left }
