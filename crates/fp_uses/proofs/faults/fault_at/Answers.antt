use Rattle.fp_uses.proofs.LeastFlagged.{of_user, of_none_else}
use Rattle.fp_uses.proofs.faults.fault_at.Goals as goal

pub returns-then-are_of : goal.returns-then-are_of
returns-then-are_of c =
    of_user c.args.users c.args.definition.now c.args.cyclic c.args.deep c.are_of.result c.are_of.ensures c.marked.result c.if-are_of.true c.marked.ensures

pub returns-else-are_of : goal.returns-else-are_of
returns-else-are_of c =
    of_none_else c.args.users c.args.definition.now c.args.cyclic c.args.deep c.are_of.result c.are_of.ensures c.if-are_of.false
