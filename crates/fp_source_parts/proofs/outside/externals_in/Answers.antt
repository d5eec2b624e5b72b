use Rattle.std.proofs.Common.{◌≡◌, Some, length, slice_get, refl}
use Rattle.std.proofs.lemmas.Option.{slice_get_read}
use Rattle.fp_source_parts.proofs.External.{outside_all, outside_next}
use Rattle.fp_source_parts.proofs.outside.externals_in.Goals as goal

pub loop-item-preserved : goal.loop-item-preserved
loop-item-preserved c =
    let all = c.args.items.now in
    let n = c.loop-item.item-index in
    let x = c.item-item.result in
    let at : slice_get all n ≡ Some x = slice_get_read all (length all) n x refl c.loop-item-test.true c.item-item.is in
    outside_next all n x c.loop-item.externals.items c.note_item.new.externals.items at c.loop-item.invariant c.in_ok-note_item.ensures

pub returns : goal.returns
returns c = outside_all c.args.items.now c.loop-item.item-index c.loop-item.externals.items c.loop-item-test.false c.loop-item.invariant
