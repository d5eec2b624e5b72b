use Rattle.std.proofs.Common.{rules}
use Rattle.std.proofs.lemmas.Int.{to_z-of_z}
use mir.Syntax.{w32}
use mir.Val.{SFits}
use Rattle.fp_components.proofs.Queued.{later_is}
use Rattle.fp_components.proofs.queues.later.Goals as goal

pub returns : goal.returns
returns c whole =
    let fits : SFits w32 c.priority_given.result = search rules in
    later_is c.args.queue c.priority_given.result _ c.full_of.result (to_z-of_z w32 c.priority_given.result fits) (c.priority_given.ensures whole) c.full_of.ensures
