use Rattle.std.proofs.Common.{◌≡◌, Some, length, slice_get, refl}
use Rattle.std.proofs.lemmas.Option.{slice_get_read}
use Rattle.fp_consts.proofs.Counted.{laid_next}
use Rattle.fp_consts.proofs.laying.lay.Goals as goal

pub loop-index-preserved : goal.loop-index-preserved
loop-index-preserved c =
    let all = c.args.items.now in
    let n = c.loop-index.index in
    let item = c.index-items-index.result in
    let at : slice_get all n ≡ Some item = slice_get_read all (length all) n item refl c.loop-index-test.true c.index-items-index.is in
    laid_next c.args.limit all n item c.loop-index.laid c.in_ok-laid.laid at c.loop-index.invariant c.in_ok-laid.ensures
