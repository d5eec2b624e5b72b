use Rattle.std.proofs.Common.{sym}
use Rattle.fp_grammar.proofs.Answering.{passing, as_value}
use Rattle.fp_grammar.proofs.Walk.{begin, under, next, done, stop, stop_first}
use Rattle.fp_parse_parts.proofs.MembersFit.{include_fits}
use Rattle.fp_parse_parts.proofs.members.include.Goals as goal

pub returns-in_err-word : goal.returns-in_err-word
returns-in_err-word c = passing _ _ (λ to p. stop_first (under (begin _ _ include_fits)) p) c.in_err-word.ensures c.from_residual.ensures.1

pub returns-in_err-file : goal.returns-in_err-file
returns-in_err-file c = passing _ _ (λ to p. stop (next (under (begin _ _ include_fits)) c.in_ok-word.ensures) p) c.in_err-file.ensures c.from_residual-in_err-file.ensures.1

pub returns : goal.returns
returns c = as_value (sym c.include_of.ensures) (done (next (under (begin _ _ include_fits)) c.in_ok-word.ensures) c.in_ok-file.ensures)
