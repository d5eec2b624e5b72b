use Rattle.fp_parse_parts.proofs.MembersFit.{any_model_fits}
use Rattle.fp_parse_parts.proofs.models.any_model.Goals as goal

pub returns : goal.returns
returns c = c.read.ensures.parses (any_model_fits c.args.depth)
