use Rattle.fp_grammar.proofs.Fits.{good_of}
use Rattle.fp_parse_defs.specs.Definitions as D
use Rattle.fp_parse_defs.specs.Reading.{limit}
use Rattle.fp_parse_defs.proofs.DefinitionsFit.{definition_fits}
use Rattle.fp_parse_defs.proofs.reading.one_def.Goals as goal

pub returns : goal.returns
returns c = (good_of (D.definition limit) (definition_fits limit).predictive (definition_fits limit).refs).unique
