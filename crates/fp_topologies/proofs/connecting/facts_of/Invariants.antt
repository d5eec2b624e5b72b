use Rattle.std.proofs.Common.{◌≡◌, take, map}
use Rattle.fp_topologies.specs.Ports.{connection_facts}
use Rattle.fp_topologies.proofs.connecting.facts_of.Given as goal

abbrev pub invariant-loop-connection : goal.invariant-loop-connection
invariant-loop-connection l = l.facts ≡ map (connection_facts l.index.components l.index.instances) (take l.connection-index l.connections)
