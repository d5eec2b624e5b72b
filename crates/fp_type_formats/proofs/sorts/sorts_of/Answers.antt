use Rattle.std.proofs.Common.{◌≡◌, Some, length, take, slice_get, refl}
use Rattle.std.specs.Prelude.{flat_map}
use Rattle.std.proofs.lemmas.Option.{slice_get_read}
use Rattle.fp_type_formats.specs.Integers.{sites_of}
use Rattle.fp_type_formats.proofs.Followed.{sorts_next, sorts_whole}
use Rattle.fp_type_formats.proofs.sorts.sorts_of.Goals as goal

pub loop-item-preserved : goal.loop-item-preserved
loop-item-preserved c =
    let all = c.args.items.now in
    let n = c.loop-item.item-index in
    let x = c.item-item.result in
    let at : slice_get all n ≡ Some x = slice_get_read all (length all) n x refl c.loop-item-test.true c.item-item.is in
    sorts_next c.args.names.now all n x _ at (c.in_ok-add_item.ensures (flat_map sites_of (take n all)) c.loop-item.invariant)

pub returns : goal.returns
returns c = sorts_whole c.args.names.now c.args.items.now c.loop-item.item-index c.loop-item.found c.loop-item-test.false c.loop-item.invariant
