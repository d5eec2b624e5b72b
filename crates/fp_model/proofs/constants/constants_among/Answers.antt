use Rattle.std.proofs.Common.{◌≡◌, Some, length, slice_get, refl}
use Rattle.std.proofs.lemmas.Option.{slice_get_read}
use Rattle.fp_model.proofs.Adding.{found_all, found_next, found_none}
use Rattle.fp_model.proofs.constants.constants_among.Goals as goal

pub loop-item-init : goal.loop-item-init
loop-item-init c = found_none c.args.values.now c.args.items.now c.nothing-found.result c.nothing-found.ensures

pub loop-item-preserved : goal.loop-item-preserved
loop-item-preserved c =
    let all = c.args.items.now in
    let n = c.loop-item.item-index in
    let item = c.item-item.result in
    let at : slice_get all n ≡ Some item = slice_get_read all (length all) n item refl c.loop-item-test.true c.item-item.is in
    found_next c.args.values.now all n item c.loop-item.found c.in_ok-found.found at c.loop-item.invariant c.in_ok-found.ensures

pub returns : goal.returns
returns c = found_all c.args.values.now c.args.items.now c.loop-item.item-index c.loop-item.found c.loop-item-test.false c.loop-item.invariant
