use Rattle.fp_type_sizes.specs.Sized.{SizedFirst}
use Rattle.fp_type_sizes.proofs.sizing.extents.Given as goal

abbrev pub invariant-loop-number : goal.invariant-loop-number
invariant-loop-number l = SizedFirst l.types l.order l.number-index l.table.items
