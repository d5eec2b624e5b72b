use Rattle.fp_actor.proofs.Names.{is_same_text}
use Rattle.fp_actor.proofs.values.same_name.Goals as goal

pub returns : goal.returns
returns c = is_same_text c.is_same.result c.args.left.now c.args.right.now c.is_same.ensures
