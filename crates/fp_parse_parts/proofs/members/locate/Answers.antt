use Rattle.std.proofs.Common.{sym}
use Rattle.fp_grammar.proofs.Answering.{passing, as_value}
use Rattle.fp_grammar.proofs.Walk.{begin, under, next, done, stop, stop_first}
use Rattle.fp_parse_parts.proofs.MembersFit.{locate_fits}
use Rattle.fp_parse_parts.proofs.members.locate.Goals as goal

pub returns-in_err-word : goal.returns-in_err-word
returns-in_err-word c = passing _ _ (λ to p. stop_first (under (begin _ _ locate_fits)) p) c.in_err-word.ensures c.from_residual.ensures.1

pub returns-in_err-of : goal.returns-in_err-of
returns-in_err-of c = passing _ _ (λ to p. stop_first (next (under (begin _ _ locate_fits)) c.in_ok-word.ensures) p) c.in_err-of.ensures c.from_residual-in_err-of.ensures.1

pub returns-in_err-before_file : goal.returns-in_err-before_file
returns-in_err-before_file c = passing _ _ (λ to p. stop_first (next (next (under (begin _ _ locate_fits)) c.in_ok-word.ensures) c.in_ok-of.ensures) p) c.in_err-before_file.ensures c.from_residual-in_err-before_file.ensures.1

pub returns-in_err-file : goal.returns-in_err-file
returns-in_err-file c = passing _ _ (λ to p. stop (next (next (next (under (begin _ _ locate_fits)) c.in_ok-word.ensures) c.in_ok-of.ensures) c.in_ok-before_file.ensures) p) c.in_err-file.ensures c.from_residual-in_err-file.ensures.1

pub returns : goal.returns
returns c = as_value (sym c.locate_of.ensures) (done (next (next (next (under (begin _ _ locate_fits)) c.in_ok-word.ensures) c.in_ok-of.ensures) c.in_ok-before_file.ensures) c.in_ok-file.ensures)
