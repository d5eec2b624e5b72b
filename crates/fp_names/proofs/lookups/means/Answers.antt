use Rattle.fp_names.proofs.Faults.{has_meaning}
use Rattle.fp_names.proofs.lookups.means.Goals as goal

pub returns : goal.returns
returns c = has_meaning c.args.names.now c.args.mention.now c.args.group c.find.result c.is_some.result c.is_some.ensures c.find.ensures
