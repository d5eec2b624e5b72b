use Rattle.std.proofs.Common.{List}
use Rattle.fp_base.specs.Least.{InFirst, IsLeast}
use Rattle.fp_meaning.specs.declared.item.Item.{Item}
use Rattle.fp_type_formats.specs.Broken.{BrokenByMember}
use Rattle.fp_type_formats.specs.Sorted.{AreFound}
use Rattle.fp_type_formats.proofs.faults.fields_fault.Given as goal

abbrev pub invariant-loop-field : goal.invariant-loop-field
invariant-loop-field l = (is : List Item) → AreFound is l.names l.sorts → IsLeast (InFirst l.field-index (λ k. BrokenByMember is l.scope) l.fields) l.first
