use Rattle.fp_source_parts.proofs.Giving.{AreGiven}
use Rattle.fp_source_parts.proofs.building.machines_built.Given as goal

abbrev pub invariant-loop-index : goal.invariant-loop-index
invariant-loop-index l = AreGiven l.marks l.resolutions l.items l.index l.machines
