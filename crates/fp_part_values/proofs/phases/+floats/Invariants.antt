use Rattle.fp_meaning.specs.Values.{values_in}
use Rattle.fp_part_values.specs.Phases.{FloatBroken}
use Rattle.fp_part_values.proofs.Folding.{LeastFirst}
use Rattle.fp_part_values.proofs.phases.+floats.Given as goal

abbrev pub invariant-items_fault-loop-item : goal.invariant-items_fault-loop-item
invariant-items_fault-loop-item l = LeastFirst FloatBroken l.items l.item-index l.first

abbrev pub invariant-members_fault-loop-member : goal.invariant-members_fault-loop-member
invariant-members_fault-loop-member l = LeastFirst FloatBroken (values_in l.members) l.member-index l.first
