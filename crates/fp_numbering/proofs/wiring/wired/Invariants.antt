use Rattle.std.proofs.Common.{◌≡◌, ◌++◌}
use Rattle.std.specs.Vec.Iter.{into_iter_items}
use Rattle.fp_numbering.specs.Found.{wired}
use Rattle.fp_numbering.proofs.wiring.wired.Given as goal

abbrev pub invariant-loop-topology : goal.invariant-loop-topology
invariant-loop-topology l = l.out ++ wired (into_iter_items l.topology-iterator) (into_iter_items l.left) ≡ wired l.fn.topologies l.fn.wires
