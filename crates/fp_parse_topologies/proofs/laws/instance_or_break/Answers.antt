use Rattle.fp_grammar.proofs.BrokenLemmas.{spelled_or_broken}
use Rattle.fp_grammar.proofs.Throughout.{fits_whole}
use Rattle.fp_parse_topologies.specs.Instances.{component_instance}
use Rattle.fp_parse_topologies.proofs.TopologiesFit.{instance_fits}
use Rattle.fp_parse_topologies.proofs.TopologiesDecided.{instance_decided}
use Rattle.fp_parse_topologies.proofs.laws.instance_or_break.Goals as goal

pub returns : goal.returns
returns c = λ depth tokens. spelled_or_broken (component_instance depth) (fits_whole (instance_fits depth)) (instance_decided depth) tokens
