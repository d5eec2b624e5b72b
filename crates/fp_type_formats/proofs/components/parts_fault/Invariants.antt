use Rattle.std.proofs.Common.{List}
use Rattle.fp_base.specs.Least.{InFirst, IsLeast}
use Rattle.fp_meaning.specs.declared.item.Item.{Item}
use Rattle.fp_type_formats.specs.Broken.{BrokenByPart}
use Rattle.fp_type_formats.specs.Sorted.{AreFound}
use Rattle.fp_type_formats.proofs.components.parts_fault.Given as goal

abbrev pub invariant-loop-part : goal.invariant-loop-part
invariant-loop-part l = (is : List Item) → AreFound is l.names l.sorts → IsLeast (InFirst l.part-index (λ k. BrokenByPart is l.scope) l.parts) l.least
