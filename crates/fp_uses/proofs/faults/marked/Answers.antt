use Rattle.fp_uses.proofs.LeastFlagged.{least_marked}
use Rattle.fp_uses.proofs.faults.marked.Goals as goal

pub returns : goal.returns
returns c =
    least_marked c.args.place c.args.cyclic c.args.deep c.refusal_if.result c.refusal_if-2.result c.lesser.result c.lesser.ensures c.refusal_if.ensures c.refusal_if-2.ensures
