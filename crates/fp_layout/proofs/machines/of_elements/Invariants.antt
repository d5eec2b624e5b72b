use Rattle.std.proofs.Common.{◌≡◌, ◌++◌, flat_map, take}
use Rattle.fp_meaning.specs.Layout.{element_items}
use Rattle.fp_layout.proofs.machines.of_elements.Given as goal

abbrev pub invariant-loop-element : goal.invariant-loop-element
invariant-loop-element l = l.found ≡ l.initial.found ++ flat_map (element_items l.scope) (take l.element-index l.elements)
