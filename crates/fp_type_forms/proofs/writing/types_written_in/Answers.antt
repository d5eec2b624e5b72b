use Rattle.std.proofs.Common.{◌≡◌, Some, length, slice_get, refl}
use Rattle.std.proofs.lemmas.Option.{slice_get_read}
use Rattle.fp_type_forms.proofs.Adding.{none_written_yet, next_written, all_written}
use Rattle.fp_type_forms.proofs.writing.types_written_in.Goals as goal

pub loop-index-init : goal.loop-index-init
loop-index-init c = none_written_yet c.args.marks.now c.args.resolutions.now c.args.items.now c.new-written.result c.new-written.ensures

pub loop-index-preserved : goal.loop-index-preserved
loop-index-preserved c =
    let all = c.args.items.now in
    let n = c.loop-index.index in
    let item = c.index-items-index.result in
    let at : slice_get all n ≡ Some item = slice_get_read all (length all) n item refl c.loop-index-test.true c.index-items-index.is in
    next_written c.args.marks.now c.args.resolutions.now all n item c.loop-index.written c.in_ok-written.written at c.loop-index.invariant c.in_ok-written.ensures

pub returns : goal.returns
returns c = all_written c.args.marks.now c.args.resolutions.now c.args.items.now c.loop-index.index c.loop-index.written c.loop-index-test.false c.loop-index.invariant
