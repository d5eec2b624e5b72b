use Rattle.std.proofs.Common.{◌≡◌, ◌++◌, map}
use Rattle.std.specs.Vec.Iter.{into_iter_items}
use Rattle.fp_gather.specs.gathering.Includes.{in_turn, placed_part}
use Rattle.fp_gather.proofs.gathering.placing.in_parts.Given as goal

-- what stands so far and what stands in place of the parts that are left
abbrev pub invariant-loop-part : goal.invariant-loop-part
invariant-loop-part l =
    let behind = in_turn (map placed_part (into_iter_items l.part-iterator)) (into_iter_items l.inserts) in
    in_turn (map placed_part l.fn.parts) (into_iter_items l.initial.inserts) ≡ record { items = l.out ++ behind.items; left = behind.left }
