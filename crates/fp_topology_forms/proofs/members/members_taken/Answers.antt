use Rattle.std.proofs.Common.{◌≡◌, length, slice_get, Some, refl}
use Rattle.std.proofs.lemmas.Option.{slice_get_read}
use Rattle.fp_meaning.specs.Layout.{topology_member_items}
use Rattle.fp_topology_forms.specs.Taken.{MembersAre}
use Rattle.fp_topology_forms.proofs.Growing.{all_grown, next_grown, none_grown}
use Rattle.fp_topology_forms.proofs.Rows.{none_are}
use Rattle.fp_topology_forms.proofs.members.members_taken.Goals as goal

pub loop-member-init : goal.loop-member-init
loop-member-init c source scope ready =
    none_grown (MembersAre source scope) (topology_member_items scope) source c.args.marks.now c.args.resolutions.now c.args.members.now c.args.next.now c.args.next.now c.nothing_found-found.result refl
    (none_are source scope c.nothing_found-found.result c.nothing_found-found.ensures)

pub loop-member-preserved : goal.loop-member-preserved
loop-member-preserved c source scope ready =
    let all = c.args.members.now in
    let n = c.loop-member.member-index in
    let x = c.member-item.result in
    let at : slice_get all n ≡ Some x = slice_get_read all (length all) n x refl c.loop-member-test.true c.member-item.is in
    next_grown (MembersAre source scope) (topology_member_items scope) source c.args.marks.now c.args.resolutions.now all n x c.args.next.now c.loop-member.next _ c.loop-member.found c.in_ok-found.found at (c.loop-member.invariant source scope ready)
    (c.in_ok-found.ensures source scope ready)

pub returns : goal.returns
returns c source scope ready =
    all_grown (MembersAre source scope) (topology_member_items scope) source c.args.marks.now c.args.resolutions.now c.args.members.now c.loop-member.member-index c.args.next.now c.loop-member.next c.loop-member.found c.loop-member-test.false
    (c.loop-member.invariant source scope ready)
