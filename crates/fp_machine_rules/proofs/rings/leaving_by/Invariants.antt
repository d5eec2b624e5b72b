use Rattle.fp_machine_rules.specs.Leaving.{AreFlags}
use Rattle.fp_machine_rules.specs.Through.{LeavesItsState}
use Rattle.fp_machine_rules.proofs.rings.leaving_by.Given as goal

abbrev pub invariant-loop-vertex : goal.invariant-loop-vertex
invariant-loop-vertex l = AreFlags (LeavesItsState l.items) l.vertex l.flags.items
