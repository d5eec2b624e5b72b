use Rattle.fp_source_parts.proofs.TopologyLeast.{numbers_least}
use Rattle.fp_source_parts.proofs.topology_laws.numbers_are_least.Goals as goal

pub returns : goal.returns
returns c source parts written instances topologies first are built closed joined l =
    numbers_least c.one_components.ensures c.one_deployment.ensures source parts written are instances built topologies closed joined c.one_topologies.ensures first l
