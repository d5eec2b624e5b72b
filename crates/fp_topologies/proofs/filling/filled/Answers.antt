use Rattle.std.proofs.Common.{◌≤◌, length, arith}
use Rattle.fp_topologies.proofs.Orders.{filled_all, filled_none}
use Rattle.fp_topologies.proofs.filling.filled.Goals as goal

pub order-init : goal.order-init
order-init c = filled_none c.args.written.now c.args.sorted.now.order.items c.args.sorted.now.cyclic.items c.requires.order c.requires.cyclic c.in_ok-closures.closures.items c.in_ok-closures.ensures

pub returns : goal.returns
returns c =
    let order = c.args.sorted.now.order.items in
    let over : length order ≤ c.order.at = omega (arith, c.len-at-end.ensures, c.args.sorted.now.order.ok.0) in
    filled_all c.args.written.now order c.args.sorted.now.cyclic.items c.requires.order c.requires.cyclic c.order.at c.order.closures.items over c.order.invariant
