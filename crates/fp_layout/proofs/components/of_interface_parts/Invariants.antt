use Rattle.std.proofs.Common.{◌≡◌, ◌++◌, flat_map, take}
use Rattle.fp_meaning.specs.Layout.{interface_part_items}
use Rattle.fp_layout.proofs.components.of_interface_parts.Given as goal

abbrev pub invariant-loop-part : goal.invariant-loop-part
invariant-loop-part l = l.found ≡ l.initial.found ++ flat_map (interface_part_items l.scope) (take l.part-index l.parts)
