use Rattle.fp_parse_defs.proofs.DefinitionsFit.{definition_parts_fit}
use Rattle.fp_parse_defs.proofs.reading.parse_def.Goals as goal

pub parse_node-requires-clause-fits : goal.parse_node-requires-clause-fits
parse_node-requires-clause-fits c = definition_parts_fit
