use Rattle.fp_parse_components.proofs.PartsFit.{parts_fit}
use Rattle.fp_parse_parts.proofs.files.ComponentFileFileKind.read.Goals as goal

pub returns : goal.returns
returns c = c.read.ensures.parses (parts_fit c.args.depth)
