use Rattle.fp_parse_components.proofs.PartsFit.{special_kind_fits}
use Rattle.fp_parse_components.proofs.words.special_kind.Goals as goal

pub returns : goal.returns
returns c = c.read.ensures.parses special_kind_fits
