use Rattle.std.proofs.Common.{◌≡◌, ◌++◌, map, take}
use Rattle.fp_base.specs.Rendered.{joined, value_text, part_text}
use Rattle.fp_formats.proofs.value_text.+write.Given as goal

abbrev pub invariant-write_items-loop-at : goal.invariant-write_items-loop-at
invariant-write_items-loop-at l = l.out ≡ l.initial.out ++ joined (map value_text (take l.at l.items))

abbrev pub invariant-write_parts-loop-at : goal.invariant-write_parts-loop-at
invariant-write_parts-loop-at l = l.out ≡ l.initial.out ++ joined (map part_text (take l.at l.parts))
