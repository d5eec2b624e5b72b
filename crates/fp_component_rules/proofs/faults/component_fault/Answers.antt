use Rattle.std.proofs.Common.{List, sym, subst}
use Rattle.fp_base.specs.Least.{IsLeast}
use Rattle.fp_base.proofs.Calculus.{least_along, least_either}
use Rattle.fp_written_parts.specs.declared.member.WrittenMember.{WrittenMember}
use Rattle.fp_written_parts.specs.Giving.{ImportsWithin}
use Rattle.fp_component_rules.specs.Gifts.{IsGift}
use Rattle.fp_component_rules.specs.Broken.{MatchesBroken, QueueBroken, RepeatsBroken, SpecialBroken}
use Rattle.fp_component_rules.proofs.faults.component_fault.Goals as goal

pub returns : goal.returns
returns c fs gifts within =
    let component = c.args.component.now in
    let same = c.as_slice-members.ensures in
    let ms = c.as_slice-members.result.now in
    let here : ImportsWithin fs ms = subst (ImportsWithin fs) (sym same) within in
    let gift : IsGift fs ms c.in_ok-gift.gift = c.in_ok-gift.ensures fs gifts here in
    least_along (sym c.lesser.ensures)
    (least_either c.lesser-near.result c.lesser-far.result
    (least_along (sym c.lesser-near.ensures)
    (least_either c.in_ok-repeats.repeats c.in_ok-queue.queue
    (subst (λ (xs : List WrittenMember). IsLeast (RepeatsBroken fs xs) c.in_ok-repeats.repeats) same (c.in_ok-repeats.ensures fs gifts here))
    (subst (λ (xs : List WrittenMember). IsLeast (QueueBroken fs component.queueing component.at xs) c.in_ok-queue.queue) same (c.in_ok-queue.ensures fs gifts here gift))))
    (least_along (sym c.lesser-far.ensures)
    (least_either c.special_fault-special.result c.in_ok-matches.matches
    (subst (λ (xs : List WrittenMember). IsLeast (SpecialBroken fs component.at xs) c.special_fault-special.result) same (c.special_fault-special.ensures fs gift))
    (subst (λ (xs : List WrittenMember). IsLeast (MatchesBroken fs xs) c.in_ok-matches.matches) same (c.in_ok-matches.ensures fs gift)))))
