use Rattle.std.proofs.Common.{flat_map, take}
use Rattle.fp_topologies.specs.ImportFirsts.{AreFirsts}
use Rattle.fp_topologies.specs.Held.{public_at}
use Rattle.fp_topologies.proofs.holding.imported_instances.Given as goal

abbrev pub invariant-loop-topology : goal.invariant-loop-topology
invariant-loop-topology l = AreFirsts (flat_map (public_at l.written) (take l.topology-index l.closure)) l.firsts
