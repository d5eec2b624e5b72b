use Rattle.fp_grammar.proofs.Answering.{handing}
use Rattle.fp_grammar.proofs.Sealed.{sealed_accepts, sealed_refuses}
use Rattle.fp_parse_components.proofs.PartsFit.{part_fits}
use Rattle.fp_parse_components.proofs.parts.part.Goals as goal

pub returns : goal.returns
returns c = handing (λ x to p. sealed_accepts p) (λ to p. sealed_refuses p) _ (c.read.ensures.parses (part_fits c.args.depth))
