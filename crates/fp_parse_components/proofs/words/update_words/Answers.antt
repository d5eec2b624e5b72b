use Rattle.fp_parse_components.proofs.PartsFit.{update_fits}
use Rattle.fp_parse_components.proofs.words.update_words.Goals as goal

pub returns : goal.returns
returns c = c.read.ensures.parses update_fits
