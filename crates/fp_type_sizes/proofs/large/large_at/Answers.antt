use Rattle.fp_type_sizes.proofs.TooLarge.{large_least}
use Rattle.fp_type_sizes.proofs.large.large_at.Goals as goal

pub returns : goal.returns
returns c = large_least c.args.types.now c.args.extents.now c.requires c.args.number c.args.place c.is_large-large.result c.refusal_if.result c.is_large-large.ensures c.refusal_if.ensures
