use Rattle.fp_type_forms.proofs.Breaking.{LeastOfFirst}
use Rattle.fp_source_parts.specs.MachineBroken.{BrokenItem}
use Rattle.fp_source_parts.proofs.faults.least_among.Given as goal

abbrev pub invariant-loop-index : goal.invariant-loop-index
invariant-loop-index l = LeastOfFirst (BrokenItem l.types) l.marks l.resolutions l.items l.index l.first
