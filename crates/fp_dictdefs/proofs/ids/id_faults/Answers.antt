use Rattle.std.proofs.Common.{◌≡◌, Some, length, slice_get, refl}
use Rattle.std.specs.BTreeSet.{contains}
use Rattle.std.proofs.lemmas.Option.{slice_get_read}
use Rattle.fp_dictdefs.specs.Tested.{long_cmp}
use Rattle.fp_dictdefs.proofs.Counting.{ids_none, ids_next, ids_all}
use Rattle.fp_dictdefs.proofs.Pairs.{none_noted}
use Rattle.fp_dictdefs.proofs.ids.id_faults.Goals as goal

pub loop-one-init : goal.loop-one-init
loop-one-init c = ids_none c.args.list.now (contains long_cmp c.new-seen.result) (none_noted c.new-seen.result c.new-seen.ensures.empty)

pub loop-one-preserved : goal.loop-one-preserved
loop-one-preserved c =
    let all = c.args.list.now in
    let n = c.loop-one.one-index in
    let x = c.one-item.result in
    let at : slice_get all n ≡ Some x = slice_get_read all (length all) n x refl c.loop-one-test.true c.one-item.is in
    ids_next all n x c.loop-one.first c.lesser-first.result c.in_ok-fault.fault c.loop-one.implied c.given_or-id.result c.implied_after-implied.result (contains long_cmp c.loop-one.seen)
    (contains long_cmp c.note_id.new.seen) at c.lesser-first.ensures c.given_or-id.ensures.is (c.given_or-id.ensures.fits c.loop-one.invariant.fits) c.in_ok-fault.ensures.fault c.in_ok-fault.ensures.notes
    c.implied_after-implied.ensures.is c.implied_after-implied.ensures.fits c.loop-one.invariant

pub returns : goal.returns
returns c = ids_all c.args.list.now c.loop-one.one-index c.loop-one.first c.loop-one.implied (contains long_cmp c.loop-one.seen) c.loop-one-test.false c.loop-one.invariant
