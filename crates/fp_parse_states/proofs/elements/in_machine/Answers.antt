use Rattle.std.proofs.Common.{false}
use Rattle.fp_parse_states.proofs.BodiesFit.{element_fits}
use Rattle.fp_parse_states.proofs.elements.in_machine.Goals as goal

pub returns : goal.returns
returns c = c.read.ensures.parses (element_fits c.args.depth false)
