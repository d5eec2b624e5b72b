use Rattle.std.proofs.Common.{◌≡◌, [], Some, length, slice_get, flat_map, refl}
use Rattle.std.proofs.lemmas.Option.{slice_get_read}
use Rattle.fp_meaning.specs.Layout.{topology_member_items}
use Rattle.fp_part_values.specs.Numbers.{topology_member_numbers}
use Rattle.fp_part_values.proofs.Looping.{none_of_each, faults_none, faults_next, faults_all}
use Rattle.fp_part_values.proofs.topologies.members_fault.Goals as goal

pub loop-member-init : goal.loop-member-init
loop-member-init c source scope = faults_none (topology_member_items scope) (λ x. []) topology_member_numbers source c.args.marks.now c.args.resolutions.now scope c.args.members.now c.args.next.now

pub loop-member-preserved : goal.loop-member-preserved
loop-member-preserved c source scope =
    let all = c.args.members.now in
    let n = c.loop-member.member-index in
    let x = c.member-item.result in
    let at : slice_get all n ≡ Some x = slice_get_read all (length all) n x refl c.loop-member-test.true c.member-item.is in
    faults_next (topology_member_items scope) (λ x. []) topology_member_numbers source c.args.marks.now c.args.resolutions.now scope all n x c.args.next.now c.loop-member.next c.member_fault-one.new.next c.loop-member.first c.lesser-first.result c.member_fault-one.result at c.lesser-first.ensures
    (c.loop-member.invariant source scope) (c.member_fault-one.ensures source scope)

pub returns : goal.returns
returns c source scope =
    let all = c.args.members.now in
    faults_all (topology_member_items scope) (λ x. []) topology_member_numbers source c.args.marks.now c.args.resolutions.now scope all c.loop-member.member-index c.args.next.now c.loop-member.next c.loop-member.first [] (flat_map topology_member_numbers all) (none_of_each (λ x. []) (λ x. refl) all) refl
    c.loop-member-test.false (c.loop-member.invariant source scope)
