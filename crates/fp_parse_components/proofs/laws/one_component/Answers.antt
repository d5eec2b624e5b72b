use Rattle.fp_grammar.proofs.Fits.{good_of}
use Rattle.fp_parse_defs.specs.Reading.{limit}
use Rattle.fp_parse_components.specs.Components.{component}
use Rattle.fp_parse_components.proofs.PartsFit.{component_fits}
use Rattle.fp_parse_components.proofs.laws.one_component.Goals as goal

pub returns : goal.returns
returns c = (good_of (component limit) (component_fits limit).predictive (component_fits limit).refs).unique
