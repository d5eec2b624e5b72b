use Rattle.fp_source_parts.proofs.TopologyLeast.{instances_least}
use Rattle.fp_source_parts.proofs.topology_laws.instances_are_least.Goals as goal

pub returns : goal.returns
returns c source parts written first are l = instances_least c.one_components.ensures c.one_deployment.ensures source parts written are first l
