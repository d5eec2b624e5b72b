use Rattle.std.proofs.Common.{◌≡◌, Some, length, slice_get, refl}
use Rattle.std.proofs.lemmas.Option.{slice_get_read}
use Rattle.fp_type_forms.proofs.Ranks.{none_ranked, next_ranked, all_ranked}
use Rattle.fp_type_forms.proofs.ranking.ranks_of.Goals as goal

pub loop-item-init : goal.loop-item-init
loop-item-init c = none_ranked c.args.items.now c.nothing_ranked-ranking.result c.nothing_ranked-ranking.ensures

pub loop-item-preserved : goal.loop-item-preserved
loop-item-preserved c =
    let all = c.args.items.now in
    let n = c.loop-item.item-index in
    let item = c.item-item.result in
    let at : slice_get all n ≡ Some item = slice_get_read all (length all) n item refl c.loop-item-test.true c.item-item.is in
    next_ranked all n item c.loop-item.ranking c.in_ok-ranking.ranking at c.loop-item.invariant c.in_ok-ranking.ensures

pub returns : goal.returns
returns c = all_ranked c.args.items.now c.loop-item.item-index c.loop-item.ranking c.loop-item-test.false c.loop-item.invariant
