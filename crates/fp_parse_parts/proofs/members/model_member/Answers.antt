use Rattle.fp_grammar.proofs.Answering.{passing}
use Rattle.fp_grammar.proofs.Sealed.{sealed_accepts, sealed_refuses}
use Rattle.fp_grammar.proofs.Steps.{map_accepts, map_refuses}
use Rattle.fp_parse_parts.proofs.members.model_member.Goals as goal

pub returns-in_err-found : goal.returns-in_err-found
returns-in_err-found c = passing _ _ (λ to p. map_refuses (sealed_refuses p)) c.in_err-found.ensures c.from_residual.ensures.1

pub returns : goal.returns
returns c = map_accepts (sealed_accepts c.in_ok-found.ensures)
