use Rattle.fp_part_values.specs.Phases.{BrokenByPhase}
use Rattle.fp_part_values.proofs.Folding.{LeastFirst}
use Rattle.fp_part_values.proofs.phases.phases_fault.Given as goal

abbrev pub invariant-loop-phase : goal.invariant-loop-phase
invariant-loop-phase l = LeastFirst BrokenByPhase l.phases l.phase-index l.first
