use Rattle.std.proofs.Common.{◌≡◌, ℕ, Some, length, slice_get, refl}
use Rattle.std.proofs.lemmas.Option.{slice_get_read}
use Rattle.fp_base.proofs.Elements.{least_first_none, least_next, least_of_all}
use Rattle.fp_dictdefs.specs.Broken.{BrokenMember}
use Rattle.fp_dictdefs.proofs.faults.members_fault.Goals as goal

pub loop-member-init : goal.loop-member-init
loop-member-init c = least_first_none (λ (k : ℕ). BrokenMember c.args.types.now) c.args.members.now

pub loop-member-preserved : goal.loop-member-preserved
loop-member-preserved c =
    let all = c.args.members.now in
    let n = c.loop-member.member-index in
    let x = c.member-item.result in
    let at : slice_get all n ≡ Some x = slice_get_read all (length all) n x refl c.loop-member-test.true c.member-item.is in
    least_next (λ (k : ℕ). BrokenMember c.args.types.now) all n x c.loop-member.first c.lesser-first.result c.in_ok-fault.fault at c.lesser-first.ensures c.in_ok-fault.ensures c.loop-member.invariant

pub returns : goal.returns
returns c = least_of_all (λ (k : ℕ). BrokenMember c.args.types.now) c.args.members.now c.loop-member.member-index c.loop-member.first c.loop-member-test.false c.loop-member.invariant
