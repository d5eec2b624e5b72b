use Rattle.fp_grammar.proofs.Answering.{handing}
use Rattle.fp_grammar.proofs.Sames.{same_accepts, same_refuses}
use Rattle.fp_grammar.proofs.Sealed.{sealed_accepts, sealed_refuses}
use Rattle.fp_parse_components.proofs.StatedSame.{same_stated}
use Rattle.fp_parse_components.proofs.PartsFit.{stated_fits}
use Rattle.fp_parse_components.proofs.stated.machine_or_running.Goals as goal

pub returns : goal.returns
returns c = handing (λ x to p. sealed_accepts (same_accepts (same_stated c.args.depth) p)) (λ to p. sealed_refuses (same_refuses (same_stated c.args.depth) p)) _ (c.read.ensures.parses (stated_fits c.args.depth))
