use Rattle.fp_grammar.proofs.Fits.{good_of}
use Rattle.fp_parse_defs.specs.Reading.{limit}
use Rattle.fp_parse_parts.specs.Units.{unit}
use Rattle.fp_parse_parts.proofs.MembersFit.{unit_fits}
use Rattle.fp_parse_parts.proofs.laws.one_unit.Goals as goal

pub returns : goal.returns
returns c = (good_of (unit limit) (unit_fits limit).predictive (unit_fits limit).refs).unique
