use Rattle.fp_grammar.proofs.Answering.{passing}
use Rattle.fp_grammar.proofs.Steps.{map_accepts, map_refuses}
use Rattle.fp_parse_defs.proofs.type_names.ValuePiece.read.Goals as goal

pub returns-in_err-found-clause-parses : goal.returns-in_err-found-clause-parses
returns-in_err-found-clause-parses c = λ _. passing _ _ (λ to p. map_refuses p) c.in_err-found.ensures.parses c.from_residual.ensures.1

pub returns-clause-parses : goal.returns-clause-parses
returns-clause-parses c = λ _. map_accepts c.in_ok-found.ensures.parses
