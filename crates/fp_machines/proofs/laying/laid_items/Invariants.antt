use Rattle.std.proofs.Common.{◌≡◌, take, map}
use Rattle.fp_machines.specs.Steps.{laid_item}
use Rattle.fp_machines.proofs.laying.laid_items.Given as goal

abbrev pub invariant-loop-element : goal.invariant-loop-element
invariant-loop-element l = l.laid ≡ map (laid_item l.elements l.items) (take l.element-index l.elements)
