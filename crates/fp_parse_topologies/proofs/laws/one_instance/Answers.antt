use Rattle.fp_grammar.proofs.Fits.{good_of}
use Rattle.fp_parse_defs.specs.Reading.{limit}
use Rattle.fp_parse_topologies.specs.Instances.{component_instance}
use Rattle.fp_parse_topologies.proofs.TopologiesFit.{instance_fits}
use Rattle.fp_parse_topologies.proofs.laws.one_instance.Goals as goal

pub returns : goal.returns
returns c = (good_of (component_instance limit) (instance_fits limit).predictive (instance_fits limit).refs).unique
