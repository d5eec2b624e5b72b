use Rattle.fp_parse_parts.proofs.Insides.{one_break, broken_no_list}
use Rattle.fp_parse_parts.proofs.laws.one_break.Goals as goal

pub returns-clause-one : goal.returns-clause-one
returns-clause-one c = one_break

pub returns-clause-none : goal.returns-clause-none
returns-clause-none c = broken_no_list
