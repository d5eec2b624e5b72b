use Rattle.fp_parse_topologies.proofs.TopologiesFit.{members_fit}
use Rattle.fp_parse_parts.proofs.files.TopologyFileFileKind.read.Goals as goal

pub returns : goal.returns
returns c = c.read.ensures.parses (members_fit c.args.depth)
