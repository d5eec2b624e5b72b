use Rattle.fp_parse_topologies.proofs.TopologiesFit.{instance_fits}
use Rattle.fp_parse_topologies.proofs.instances.parse_instance.Goals as goal

pub parse_node-requires-clause-fits : goal.parse_node-requires-clause-fits
parse_node-requires-clause-fits c = instance_fits
