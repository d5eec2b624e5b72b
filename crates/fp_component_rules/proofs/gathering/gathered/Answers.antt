use Rattle.std.proofs.Common.{◌≤◌, length, arith, subst}
use Rattle.fp_component_rules.specs.Gifts.{AreBegun}
use Rattle.fp_component_rules.proofs.Ordered.{gathered_all, gathered_none}
use Rattle.fp_component_rules.proofs.gathering.gathered.Goals as goal

pub order-init : goal.order-init
order-init c =
    gathered_none c.args.interfaces.now c.in_ok-sorted.sorted.order.items c.in_ok-sorted.sorted.cyclic.items c.in_ok-sorted.ensures.order c.in_ok-sorted.ensures.cyclic c.in_ok-gifts.gifts.items
    (subst (λ flags. AreBegun flags c.in_ok-gifts.gifts.items) c.as_slice.ensures.value c.in_ok-gifts.ensures)

pub returns : goal.returns
returns c =
    let order = c.in_ok-sorted.sorted.order.items in
    let over : length order ≤ c.order.at = omega (arith, c.len-at-end.ensures, c.in_ok-sorted.sorted.order.ok.0) in
    gathered_all c.args.interfaces.now order c.in_ok-sorted.sorted.cyclic.items c.in_ok-sorted.ensures.order c.in_ok-sorted.ensures.cyclic c.order.at c.order.gifts.items over c.order.invariant
