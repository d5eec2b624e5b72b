use Rattle.std.proofs.Common.{◌≤◌, length, arith}
use Rattle.fp_topologies.proofs.FillingSteps.{joined_all, joined_none}
use Rattle.fp_topologies.proofs.joining.topologies_joined.Goals as goal

pub order-init : goal.order-init
order-init c =
    joined_none c.args.written.now c.args.index.now.ports c.args.index.now.components c.args.index.now.instances c.args.imported.now.closures.items c.args.imported.now.order.items c.requires.order c.requires.closed
    c.in_ok-joined.joined.items c.in_ok-joined.ensures

pub returns : goal.returns
returns c =
    let order = c.args.imported.now.order.items in
    let over : length order ≤ c.order.at = omega (arith, c.len-at-end.ensures, c.args.imported.now.order.ok.0) in
    joined_all c.args.written.now c.args.index.now.ports c.args.index.now.components c.args.index.now.instances c.args.imported.now.closures.items order c.requires.order c.requires.closed c.order.at c.order.joined.items over
    c.order.invariant
