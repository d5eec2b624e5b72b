use Rattle.fp_type_forms.proofs.Breaking.{LeastOfFirst}
use Rattle.fp_part_values.specs.Broken.{BrokenByItem}
use Rattle.fp_part_values.proofs.checking.part_value_faults.Given as goal

abbrev pub invariant-loop-index : goal.invariant-loop-index
invariant-loop-index l = LeastOfFirst (BrokenByItem l.types) l.marks l.resolutions l.items l.index l.first
