use Rattle.std.proofs.Common.{◌≡◌, Some, length, slice_get, refl}
use Rattle.std.proofs.lemmas.Option.{slice_get_read}
use Rattle.fp_dictdefs.proofs.Numbered.{listed_none, listed_next}
use Rattle.fp_dictdefs.proofs.numbering.ids_of.Goals as goal

pub loop-one-init : goal.loop-one-init
loop-one-init c = listed_none c.args.list.now c.new-ids.result c.new-ids.ensures

pub loop-one-preserved : goal.loop-one-preserved
loop-one-preserved c =
    let all = c.args.list.now in
    let n = c.loop-one.one-index in
    let x = c.one-item.result in
    let at : slice_get all n ≡ Some x = slice_get_read all (length all) n x refl c.loop-one-test.true c.one-item.is in
    listed_next all n x c.loop-one.implied c.given_or-id.result c.implied_after-implied.result c.loop-one.ids _ c.short_id-short.result at c.given_or-id.ensures.is
    (c.given_or-id.ensures.fits c.loop-one.invariant.fits) c.short_id-short.ensures c.in_ok-push.ensures.ok c.implied_after-implied.ensures.is c.implied_after-implied.ensures.fits c.loop-one.invariant
