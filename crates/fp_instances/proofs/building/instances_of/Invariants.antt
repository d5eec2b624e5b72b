use Rattle.fp_instances.specs.Numbers.{AreWithin}
use Rattle.fp_instances.proofs.Built.{AreBuilt}
use Rattle.fp_instances.proofs.building.instances_of.Given as goal

abbrev pub invariant-loop-one : goal.invariant-loop-one
invariant-loop-one l = AreWithin l.written → AreBuilt l.written l.one-index l.instances
