use Rattle.fp_grammar.proofs.Fits.{good_of}
use Rattle.fp_parse_defs.specs.Reading.{limit}
use Rattle.fp_parse_topologies.specs.Topologies.{members, topology}
use Rattle.fp_parse_topologies.proofs.TopologiesFit.{members_fit, topology_fits}
use Rattle.fp_parse_topologies.proofs.laws.one_topology.Goals as goal

pub returns-clause-whole : goal.returns-clause-whole
returns-clause-whole c = (good_of (topology limit) (topology_fits limit).predictive (topology_fits limit).refs).unique

pub returns-clause-inside : goal.returns-clause-inside
returns-clause-inside c = (good_of (members limit) (members_fit limit).predictive (members_fit limit).refs).unique
