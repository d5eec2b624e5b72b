use Rattle.fp_part_values.specs.Phases.{BrokenByItem}
use Rattle.fp_part_values.proofs.Folding.{LeastFirst}
use Rattle.fp_part_values.proofs.phases.phase_faults.Given as goal

abbrev pub invariant-loop-item : goal.invariant-loop-item
invariant-loop-item l = LeastFirst BrokenByItem l.items l.item-index l.first
