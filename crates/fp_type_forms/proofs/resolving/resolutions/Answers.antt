use Rattle.std.proofs.Common.{◌≡◌, Some, length, slice_get, refl}
use Rattle.std.proofs.lemmas.Option.{slice_get_read}
use Rattle.fp_type_forms.proofs.Ready.{none_resolved, next_resolved, all_resolved}
use Rattle.fp_type_forms.proofs.resolving.resolutions.Goals as goal

pub loop-item-init : goal.loop-item-init
loop-item-init c = none_resolved c.args.meanings.now c.args.ranks.now c.args.limit c.args.items.now c.nothing_resolved-resolved.result c.nothing_resolved-resolved.ensures

pub loop-item-preserved : goal.loop-item-preserved
loop-item-preserved c =
    let all = c.args.items.now in
    let n = c.loop-item.item-index in
    let item = c.item-item.result in
    let at : slice_get all n ≡ Some item = slice_get_read all (length all) n item refl c.loop-item-test.true c.item-item.is in
    next_resolved c.args.meanings.now c.args.ranks.now c.args.limit all n item c.loop-item.resolved c.in_ok-resolved.resolved at c.loop-item.invariant c.in_ok-resolved.ensures

pub returns : goal.returns
returns c = all_resolved c.args.meanings.now c.args.ranks.now c.args.limit c.args.items.now c.loop-item.item-index c.loop-item.resolved c.loop-item-test.false c.loop-item.invariant
