use Rattle.fp_grammar.proofs.Answering.{handing}
use Rattle.fp_grammar.proofs.Sames.{same_accepts, same_refuses}
use Rattle.fp_grammar.proofs.Sealed.{sealed_accepts, sealed_refuses}
use Rattle.fp_parse_states.proofs.TransitionsFit.{first_fits, same_transition}
use Rattle.fp_parse_states.proofs.transitions.transition.Goals as goal

pub returns : goal.returns
returns c = handing (λ x to p. sealed_accepts (same_accepts same_transition p)) (λ to p. sealed_refuses (same_refuses same_transition p)) _ (c.read.ensures.parses first_fits)
