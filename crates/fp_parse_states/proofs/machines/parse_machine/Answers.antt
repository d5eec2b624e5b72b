use Rattle.fp_parse_states.proofs.NestedFit.{machine_fits}
use Rattle.fp_parse_states.proofs.machines.parse_machine.Goals as goal

pub parse_node-requires-clause-fits : goal.parse_node-requires-clause-fits
parse_node-requires-clause-fits c = machine_fits
