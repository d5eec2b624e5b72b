use Rattle.std.proofs.Common.{◌≡◌, ◌++◌, map}
use Rattle.std.specs.Vec.Iter.{into_iter_items}
use Rattle.fp_gather.specs.gathering.Includes.{in_turn, placed}
use Rattle.fp_gather.proofs.gathering.placing.+placing.Given as goal

-- what stands so far and what stands in place of the members that are left
abbrev pub invariant-in_members-loop-member : goal.invariant-in_members-loop-member
invariant-in_members-loop-member l =
    let behind = in_turn (map placed (into_iter_items l.member-iterator)) (into_iter_items l.inserts) in
    in_turn (map placed l.fn.members) (into_iter_items l.initial.inserts) ≡ record { items = l.out ++ behind.items; left = behind.left }
