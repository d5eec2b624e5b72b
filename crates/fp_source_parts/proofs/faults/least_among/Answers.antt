use Rattle.std.proofs.Common.{◌≡◌, Some, length, slice_get, refl}
use Rattle.std.proofs.lemmas.Option.{slice_get_read}
use Rattle.fp_type_forms.proofs.Breaking.{least_of_none, least_of_next, least_of_whole}
use Rattle.fp_source_parts.specs.MachineBroken.{BrokenItem}
use Rattle.fp_source_parts.proofs.faults.least_among.Goals as goal

pub item_fault-requires : goal.item_fault-requires
item_fault-requires c =
    let all = c.args.items.now in
    let n = c.loop-index.index in
    c.requires n c.index-items-index.result (slice_get_read all (length all) n c.index-items-index.result refl c.loop-index-test.true c.index-items-index.is)

pub loop-index-init : goal.loop-index-init
loop-index-init c = least_of_none (BrokenItem c.args.types.now) c.args.marks.now c.args.resolutions.now c.args.items.now

pub loop-index-preserved : goal.loop-index-preserved
loop-index-preserved c =
    let all = c.args.items.now in
    let n = c.loop-index.index in
    let item = c.index-items-index.result in
    let at : slice_get all n ≡ Some item = slice_get_read all (length all) n item refl c.loop-index-test.true c.index-items-index.is in
    least_of_next (BrokenItem c.args.types.now) c.args.marks.now c.args.resolutions.now all n item c.loop-index.first c.lesser-first.result c.in_ok-one.one at c.lesser-first.ensures c.loop-index.invariant c.in_ok-one.ensures

pub returns : goal.returns
returns c = least_of_whole (BrokenItem c.args.types.now) c.args.marks.now c.args.resolutions.now c.args.items.now c.loop-index.index c.loop-index.first c.loop-index-test.false c.loop-index.invariant
