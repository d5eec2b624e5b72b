use Rattle.std.proofs.Common.{◌≡◌, take}
use Rattle.std.specs.Prelude.{filter_map}
use Rattle.fp_topologies.specs.Ports.{link_of}
use Rattle.fp_topologies.proofs.index.PortIndex.links_of.Given as goal

abbrev pub invariant-loop-connection : goal.invariant-loop-connection
invariant-loop-connection l = l.links ≡ filter_map (link_of l.self.components l.self.instances) (take l.connection-index l.connections)
