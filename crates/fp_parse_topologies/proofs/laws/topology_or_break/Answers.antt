use Rattle.fp_grammar.proofs.BrokenLemmas.{spelled_or_broken}
use Rattle.fp_grammar.proofs.Throughout.{fits_whole}
use Rattle.fp_parse_topologies.specs.Topologies.{topology}
use Rattle.fp_parse_topologies.proofs.TopologiesFit.{topology_fits}
use Rattle.fp_parse_topologies.proofs.TopologiesDecided.{topology_decided}
use Rattle.fp_parse_topologies.proofs.laws.topology_or_break.Goals as goal

pub returns : goal.returns
returns c = λ depth tokens. spelled_or_broken (topology depth) (fits_whole (topology_fits depth)) (topology_decided depth) tokens
