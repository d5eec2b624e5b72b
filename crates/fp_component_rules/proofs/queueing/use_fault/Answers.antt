use Rattle.std.proofs.Common.{◌≡◌, Some, length, slice_get, refl}
use Rattle.std.proofs.lemmas.Option.{slice_get_read}
use Rattle.fp_base.proofs.Elements.{least_first_none, least_next, least_of_all}
use Rattle.fp_component_rules.specs.Broken.{UseAt}
use Rattle.fp_component_rules.proofs.Clashing.{within_one}
use Rattle.fp_component_rules.proofs.Waiting.{use_least}
use Rattle.fp_component_rules.proofs.queueing.use_fault.Goals as goal

pub loop-member-init : goal.loop-member-init
loop-member-init c fs gifts within = least_first_none (UseAt fs) c.args.members.now

pub loop-member-preserved : goal.loop-member-preserved
loop-member-preserved c fs gifts within =
    let all = c.args.members.now in
    let n = c.loop-member.member-index in
    let m = c.member-item.result in
    let at : slice_get all n ≡ Some m = slice_get_read all (length all) n m refl c.loop-member-test.true c.member-item.is in
    least_next (UseAt fs) all n m c.loop-member.first c.lesser-first.result c.fault_at-fault.result at c.lesser-first.ensures
    (use_least fs n m c.in_ok-gift.gift _ _ _ (c.in_ok-gift.ensures fs gifts (within_one fs all n m at within)) c.waits_itself.ensures c.bringer_at.ensures c.fault_at-fault.ensures)
    (c.loop-member.invariant fs gifts within)

pub returns : goal.returns
returns c fs gifts within = least_of_all (UseAt fs) c.args.members.now c.loop-member.member-index c.loop-member.first c.loop-member-test.false (c.loop-member.invariant fs gifts within)
