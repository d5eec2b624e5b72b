use Rattle.std.proofs.Common.{◌≡◌, Some, length, slice_get, refl}
use Rattle.std.proofs.lemmas.Option.{slice_get_read}
use Rattle.fp_dictdefs.proofs.Instances.{instances_none, instances_next, instances_all}
use Rattle.fp_dictdefs.proofs.running.instances_fault.Goals as goal

pub loop-member-init : goal.loop-member-init
loop-member-init c = instances_none c.args.externals.now c.args.members.now c.new-seen.result c.new-seen.ensures.empty

pub loop-member-preserved : goal.loop-member-preserved
loop-member-preserved c =
    let all = c.args.members.now in
    let n = c.loop-member.member-index in
    let x = c.member-item.result in
    let at : slice_get all n ≡ Some x = slice_get_read all (length all) n x refl c.loop-member-test.true c.member-item.is in
    instances_next c.args.externals.now all n x c.loop-member.first c.lesser-first.result c.in_ok-fault.fault c.loop-member.seen c.member_fault.new.seen at c.lesser-first.ensures c.in_ok-fault.ensures.fault c.in_ok-fault.ensures.seen c.loop-member.invariant

pub returns : goal.returns
returns c = instances_all c.args.externals.now c.args.members.now c.loop-member.member-index c.loop-member.first c.loop-member.seen c.loop-member-test.false c.loop-member.invariant
