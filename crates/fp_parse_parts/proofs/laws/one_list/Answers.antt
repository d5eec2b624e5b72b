use Rattle.fp_parse_parts.proofs.Insides.{one_list}
use Rattle.fp_parse_parts.proofs.laws.one_list.Goals as goal

pub returns : goal.returns
returns c = one_list
