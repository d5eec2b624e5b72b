use Rattle.std.proofs.Common.{List, map, sym, subst}
use Rattle.fp_base.specs.Least.{InSome, IsLeast}
use Rattle.fp_base.proofs.Calculus.{least_along, least_either}
use Rattle.fp_topologies.specs.ConnectionBroken.{BrokenByConnections}
use Rattle.fp_topologies.specs.Ports.{connection_facts}
use Rattle.fp_topologies.specs.Broken.{PatternBroken}
use Rattle.fp_written_parts.specs.declared.topology.WrittenConnection.{WrittenConnection}
use Rattle.fp_written_parts.specs.declared.topology.WrittenPattern.{WrittenPattern}
use Rattle.fp_topologies.proofs.faults.topology_fault.Goals as goal

pub returns : goal.returns
returns c =
    let index = c.args.index.now in
    least_along (sym c.lesser.ensures)
    (least_either c.in_ok-members.members c.lesser-joined.result c.in_ok-members.ensures
    (least_along (sym c.lesser-joined.ensures)
    (least_either c.in_ok-connections.connections c.patterns_fault-patterns.result
    (subst (λ (ks : List WrittenConnection). IsLeast (BrokenByConnections (map (connection_facts index.components index.instances) ks)) c.in_ok-connections.connections) c.as_slice.ensures
    c.in_ok-connections.ensures)
    (subst (λ (ps : List WrittenPattern). IsLeast (InSome (PatternBroken index.ports index.components index.instances) ps) c.patterns_fault-patterns.result) c.as_slice-2.ensures
    c.patterns_fault-patterns.ensures))))
