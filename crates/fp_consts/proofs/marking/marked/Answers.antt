use Rattle.std.proofs.Common.{◌≡◌, Some, length, slice_get, refl}
use Rattle.std.proofs.lemmas.Option.{slice_get_read}
use Rattle.fp_consts.proofs.Marked.{marks_next}
use Rattle.fp_consts.proofs.marking.marked.Goals as goal

pub loop-item-preserved : goal.loop-item-preserved
loop-item-preserved c =
    let all = c.args.items.now in
    let n = c.loop-item.item-index in
    let item = c.item-item.result in
    let at : slice_get all n ≡ Some item = slice_get_read all (length all) n item refl c.loop-item-test.true c.item-item.is in
    marks_next c.args.table.now c.args.meanings.now all n item c.loop-item.marking c.in_ok-marking.marking at c.loop-item.invariant c.in_ok-marking.ensures
