use Rattle.std.proofs.Common.{◌≡◌, ◌++◌, map, take}
use Rattle.fp_base.specs.Rendered.{joined, value_text, part_text}
use Rattle.fp_base.proofs.print.+write.Given as goal

abbrev pub invariant-push_items-loop-at : goal.invariant-push_items-loop-at
invariant-push_items-loop-at l = l.out ≡ l.initial.out ++ joined (map value_text (take l.at l.items))

abbrev pub invariant-push_parts-loop-at : goal.invariant-push_parts-loop-at
invariant-push_parts-loop-at l = l.out ≡ l.initial.out ++ joined (map part_text (take l.at l.parts))
