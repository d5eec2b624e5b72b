use Rattle.fp_parse_defs.proofs.ReadingLemmas.{expression_fits}
use Rattle.fp_parse_defs.proofs.reading.parse_expr.Goals as goal

pub parse_node-requires-clause-fits : goal.parse_node-requires-clause-fits
parse_node-requires-clause-fits c = expression_fits
