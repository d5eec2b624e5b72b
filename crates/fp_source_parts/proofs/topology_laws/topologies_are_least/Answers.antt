use Rattle.fp_source_parts.proofs.TopologyLeast.{topologies_least}
use Rattle.fp_source_parts.proofs.topology_laws.topologies_are_least.Goals as goal

pub returns : goal.returns
returns c source parts written instances first are built l = topologies_least c.one_components.ensures c.one_deployment.ensures source parts written are instances built first l
