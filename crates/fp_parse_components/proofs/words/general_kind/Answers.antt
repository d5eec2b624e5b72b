use Rattle.fp_parse_components.proofs.PartsFit.{general_kind_fits}
use Rattle.fp_parse_components.proofs.words.general_kind.Goals as goal

pub returns : goal.returns
returns c = c.read.ensures.parses general_kind_fits
