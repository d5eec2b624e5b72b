use Rattle.std.proofs.Common.{◌≡◌, Some, length, slice_get, refl}
use Rattle.std.proofs.lemmas.Option.{slice_get_read}
use Rattle.fp_part_values.specs.Phases.{BrokenByItem}
use Rattle.fp_part_values.proofs.Folding.{least_next, least_of_all, least_start}
use Rattle.fp_part_values.proofs.phases.phase_faults.Goals as goal

pub loop-item-init : goal.loop-item-init
loop-item-init c = least_start BrokenByItem c.args.items.now

pub loop-item-preserved : goal.loop-item-preserved
loop-item-preserved c =
    let all = c.args.items.now in
    let n = c.loop-item.item-index in
    let item = c.item-item.result in
    let at : slice_get all n ≡ Some item = slice_get_read all (length all) n item refl c.loop-item-test.true c.item-item.is in
    least_next BrokenByItem all n item c.loop-item.first c.lesser-first.result c.item_fault-of_item.result at c.lesser-first.ensures c.item_fault-of_item.ensures c.loop-item.invariant

pub returns : goal.returns
returns c = least_of_all BrokenByItem c.args.items.now c.loop-item.item-index c.loop-item.first c.loop-item-test.false c.loop-item.invariant
