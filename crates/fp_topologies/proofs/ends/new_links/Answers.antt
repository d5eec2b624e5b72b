use Rattle.std.proofs.Common.{◌++◌}
use Rattle.fp_topologies.proofs.ends.new_links.Goals as goal

pub returns : goal.returns
returns c = c.new_beside.ensures (c.args.imported.now ++ c.args.direct.now) c.in_ok-noted.ensures
