use Rattle.std.proofs.Common.{[]}
use Rattle.fp_topologies.proofs.ends.ends_of_all.Goals as goal

pub returns : goal.returns
returns c = c.in_ok-note_all-2.ensures c.args.imported.now (c.in_ok-note_all.ensures [] (λ q. cc))
