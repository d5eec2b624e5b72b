use Rattle.std.proofs.Common.{◌≡◌, Some, length, suc, slice_get, take, drop, refl}
use Rattle.std.proofs.lemmas.Option.{slice_get_read}
use Rattle.fp_base.proofs.Lists.{split_at}
use Rattle.fp_components.proofs.Known.{ids_known, listed_all, listed_next, listed_none}
use Rattle.fp_components.proofs.parts.parts_of.Goals as goal

pub loop-member-init : goal.loop-member-init
loop-member-init c whole = listed_none c.args.types.now.written.now c.args.members.now c.no_parts-parts.result c.no_parts-parts.ensures

pub loop-member-preserved : goal.loop-member-preserved
loop-member-preserved c whole =
    let ws = c.args.types.now.written.now in
    let all = c.args.members.now in
    let n = c.loop-member.member-index in
    let x = c.member-item.result in
    let at : slice_get all n ≡ Some x = slice_get_read all (length all) n x refl c.loop-member-test.true c.member-item.is in
    listed_next ws all n x _ at
    (c.in_ok-note_member.ensures all (take n all) (drop (suc n) all) (split_at all n x at) (ids_known ws all c.in_ok-ids.ids c.in_ok-ids.ensures whole) (whole.each n x at)
    (c.loop-member.invariant whole))

pub returns : goal.returns
returns c whole = listed_all c.args.types.now.written.now c.args.members.now c.loop-member.member-index c.loop-member.parts c.loop-member-test.false (c.loop-member.invariant whole)
