use Rattle.fp_parse_topologies.proofs.TopologiesFit.{topology_fits}
use Rattle.fp_parse_topologies.proofs.topologies.parse_topology.Goals as goal

pub parse_node-requires-clause-fits : goal.parse_node-requires-clause-fits
parse_node-requires-clause-fits c = topology_fits
