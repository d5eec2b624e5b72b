use Rattle.fp_parse_components.proofs.PartsFit.{component_fits}
use Rattle.fp_parse_components.proofs.components.parse_component.Goals as goal

pub parse_node-requires-clause-fits : goal.parse_node-requires-clause-fits
parse_node-requires-clause-fits c = component_fits
