use Rattle.std.proofs.Common.{List, take}
use Rattle.fp_meaning.specs.declared.item.Item.{Item}
use Rattle.fp_type_formats.specs.Sorted.{AreFound, AreUnfit}
use Rattle.fp_type_formats.proofs.components.unfit_formals.Given as goal

abbrev pub invariant-loop-formal : goal.invariant-loop-formal
invariant-loop-formal l = (is : List Item) → AreFound is l.names l.sorts → AreUnfit is l.scope (take l.formal-index l.formals) l.unfit
