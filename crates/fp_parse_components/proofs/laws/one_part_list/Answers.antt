use Rattle.fp_grammar.proofs.Fits.{good_of}
use Rattle.fp_parse_defs.specs.Reading.{limit}
use Rattle.fp_parse_components.specs.Parts.{parts}
use Rattle.fp_parse_components.proofs.PartsFit.{parts_fit}
use Rattle.fp_parse_components.proofs.laws.one_part_list.Goals as goal

pub returns : goal.returns
returns c = (good_of (parts limit) (parts_fit limit).predictive (parts_fit limit).refs).unique
