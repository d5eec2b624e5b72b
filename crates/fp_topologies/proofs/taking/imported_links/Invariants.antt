use Rattle.std.proofs.Common.{◌≡◌, flat_map, take}
use Rattle.fp_topologies.specs.Joined.{taken_links}
use Rattle.fp_topologies.proofs.taking.imported_links.Given as goal

abbrev pub invariant-loop-topology : goal.invariant-loop-topology
invariant-loop-topology l = l.links ≡ flat_map (taken_links l.written l.joined) (take l.topology-index l.closure)
