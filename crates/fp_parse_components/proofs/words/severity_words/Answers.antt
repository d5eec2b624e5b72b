use Rattle.fp_parse_components.proofs.PartsFit.{severity_fits}
use Rattle.fp_parse_components.proofs.words.severity_words.Goals as goal

pub returns : goal.returns
returns c = c.read.ensures.parses severity_fits
