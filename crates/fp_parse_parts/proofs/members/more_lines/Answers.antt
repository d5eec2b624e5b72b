use Rattle.std.proofs.Common.{sym}
use Rattle.fp_grammar.proofs.Answering.{passing, as_value}
use Rattle.fp_grammar.proofs.Steps.{map_accepts, map_refuses}
use Rattle.fp_parse_parts.proofs.members.more_lines.Goals as goal

pub returns-in_err-more : goal.returns-in_err-more
returns-in_err-more c = passing _ _ (λ to p. map_refuses p) c.in_err-more.ensures c.from_residual.ensures.1

pub returns : goal.returns
returns c = as_value (sym c.in_ok-appended.ensures) (map_accepts c.in_ok-more.ensures)
