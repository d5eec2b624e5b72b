use Rattle.std.proofs.Common.{◌≡◌, take, map}
use Rattle.fp_machines.specs.Outline.{outline_of}
use Rattle.fp_machines.proofs.outlining.outline.Given as goal

abbrev pub invariant-loop-element : goal.invariant-loop-element
invariant-loop-element l = l.items.items ≡ map (outline_of l.elements) (take l.element-index l.elements)
