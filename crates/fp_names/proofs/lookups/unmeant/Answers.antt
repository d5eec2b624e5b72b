use Rattle.fp_names.proofs.Faults.{wrong_kind, undefined}
use Rattle.fp_names.proofs.lookups.unmeant.Goals as goal

pub returns-then-means_something : goal.returns-then-means_something
returns-then-means_something c = wrong_kind c.args.names.now c.args.mention.now c.refusal_at.result c.refusal_at.ensures c.if-means_something.ensures c.requires

pub returns-else-means_something : goal.returns-else-means_something
returns-else-means_something c = undefined c.args.names.now c.args.mention.now c.refusal_at-else-means_something.result c.refusal_at-else-means_something.ensures c.if-means_something.ensures
