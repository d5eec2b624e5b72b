use Rattle.fp_grammar.proofs.Answering.{handing}
use Rattle.fp_grammar.proofs.Sealed.{sealed_accepts, sealed_refuses}
use Rattle.fp_parse_components.proofs.PartsFit.{definition_fits}
use Rattle.fp_parse_components.proofs.parts.definition_body.Goals as goal

pub returns : goal.returns
returns c = handing (λ x to p. sealed_accepts p) (λ to p. sealed_refuses p) _ (c.read.ensures.parses (definition_fits c.args.depth))
