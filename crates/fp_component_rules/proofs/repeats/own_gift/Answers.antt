use Rattle.std.proofs.Common.{List, sym, subst}
use Rattle.std.specs.Prelude.{IfOk}
use Rattle.fp_written_parts.specs.declared.member.WrittenMember.{WrittenMember}
use Rattle.fp_written_parts.specs.Giving.{ImportsWithin}
use Rattle.fp_component_rules.specs.Gifts.{IsGift}
use Rattle.fp_component_rules.proofs.repeats.own_gift.Goals as goal

pub returns : goal.returns
returns c fs gifts within =
    subst (λ (ms : List WrittenMember). IfOk c.gift_of.result (IsGift fs ms)) c.from_ref.ensures.value
    (c.gift_of.ensures fs gifts (subst (ImportsWithin fs) (sym c.from_ref.ensures.value) within))
