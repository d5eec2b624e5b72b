use Rattle.std.proofs.Common.{◌≡◌, take, length}
use Rattle.fp_base.proofs.value.+same.Given as goal

abbrev pub invariant-same_items-loop-item : goal.invariant-same_items-loop-item
invariant-same_items-loop-item l = take (length l.yielded) l.left ≡ take (length l.yielded) l.right

abbrev pub invariant-same_parts-loop-part : goal.invariant-same_parts-loop-part
invariant-same_parts-loop-part l = take (length l.yielded) l.left ≡ take (length l.yielded) l.right
