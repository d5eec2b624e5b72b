use Rattle.fp_grammar.proofs.Fits.{good_of}
use Rattle.fp_parse_defs.specs.Language
use Rattle.fp_parse_defs.specs.Reading.{limit}
use Rattle.fp_parse_defs.proofs.ReadingLemmas.{expression_fits}
use Rattle.fp_parse_defs.proofs.reading.one_expr.Goals as goal

pub returns : goal.returns
returns c = (good_of (Language.expression limit) (expression_fits limit).predictive (expression_fits limit).refs).unique
