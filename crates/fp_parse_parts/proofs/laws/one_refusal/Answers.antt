use Rattle.fp_parse_parts.specs.Units.{unit, topology_probe}
use Rattle.fp_parse_parts.proofs.Breaking.{one_break, broken_no_file}
use Rattle.fp_parse_parts.proofs.laws.one_refusal.Goals as goal

pub returns-clause-one : goal.returns-clause-one
returns-clause-one c = one_break unit topology_probe

pub returns-clause-none : goal.returns-clause-none
returns-clause-none c = broken_no_file unit topology_probe
