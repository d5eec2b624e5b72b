use Rattle.fp_parse_components.proofs.PartsFit.{interface_fits}
use Rattle.fp_parse_components.proofs.components.parse_interface.Goals as goal

pub parse_node-requires-clause-fits : goal.parse_node-requires-clause-fits
parse_node-requires-clause-fits c = interface_fits
