use Rattle.fp_grammar.proofs.Fits.{good_of}
use Rattle.fp_parse_defs.specs.Reading.{limit}
use Rattle.fp_parse_components.specs.Components.{interface}
use Rattle.fp_parse_components.proofs.PartsFit.{interface_fits}
use Rattle.fp_parse_components.proofs.laws.one_interface.Goals as goal

pub returns : goal.returns
returns c = (good_of (interface limit) (interface_fits limit).predictive (interface_fits limit).refs).unique
