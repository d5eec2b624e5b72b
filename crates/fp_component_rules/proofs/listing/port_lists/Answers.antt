use Rattle.std.proofs.Common.{◌≡◌, Some, length, slice_get, refl}
use Rattle.std.proofs.lemmas.Option.{slice_get_read}
use Rattle.fp_component_rules.proofs.Lists.{lists_next, lists_none}
use Rattle.fp_component_rules.proofs.Once.{given_apart}
use Rattle.fp_component_rules.proofs.listing.port_lists.Goals as goal

pub loop-component-init : goal.loop-component-init
loop-component-init c fs all within once = lists_none fs c.new-lists.result c.new-lists.ensures

pub loop-component-preserved : goal.loop-component-preserved
loop-component-preserved c fs all within once =
    let cs = c.args.components.now in
    let n = c.loop-component.component-index in
    let x = c.component-item.result in
    let at : slice_get cs n ≡ Some x = slice_get_read cs (length cs) n x refl c.loop-component-test.true c.component-item.is in
    lists_next fs cs n x c.loop-component.lists _ c.in_ok-ports.ports at c.in_ok-push.ensures.ok
    (c.in_ok-ports.ensures fs all (within n x at) (given_apart fs once.in_interfaces x.members (once.in_components n x at))) (c.loop-component.invariant fs all within once)
