use Rattle.std.proofs.Common.{◌≡◌, ◌≤◌, List, Some, length, slice_get, take, refl, sym, subst}
use Rattle.std.proofs.lemmas.List.{take_all}
use Rattle.std.proofs.lemmas.Option.{slice_get_read}
use Rattle.fp_base.proofs.Lists.{take_next}
use Rattle.fp_written_parts.specs.declared.member.WrittenMember.{WrittenMember}
use Rattle.fp_component_rules.specs.Gifts.{IsGift}
use Rattle.fp_component_rules.proofs.Summed.{gift_none, serves_one}
use Rattle.fp_component_rules.proofs.gift.gift_among.Goals as goal

pub loop-member-init : goal.loop-member-init
loop-member-init c fs serves = gift_none fs c.nothing-gift.result c.nothing-gift.ensures.sums c.nothing-gift.ensures.leads

pub loop-member-preserved : goal.loop-member-preserved
loop-member-preserved c fs serves =
    let all = c.args.members.now in
    let n = c.loop-member.member-index in
    let m = c.member-item.result in
    let at : slice_get all n ≡ Some m = slice_get_read all (length all) n m refl c.loop-member-test.true c.member-item.is in
    subst (λ (ms : List WrittenMember). IsGift fs ms c.in_ok-gift.gift) (sym (take_next all n m at))
    (c.in_ok-gift.ensures fs (take n all) (c.loop-member.invariant fs serves) (serves_one fs c.args.gifts.now all n m serves at))

pub returns : goal.returns
returns c fs serves =
    let over : length c.args.members.now ≤ c.loop-member.member-index = c.loop-member-test.false in
    subst (λ (ms : List WrittenMember). IsGift fs ms c.loop-member.gift) (take_all c.loop-member.member-index c.args.members.now over) (c.loop-member.invariant fs serves)
