use Rattle.std.proofs.Common.{sym, subst}
use Rattle.fp_written_parts.specs.Giving.{ImportsWithin}
use Rattle.fp_component_rules.specs.Gifts.{IsGift}
use Rattle.fp_component_rules.proofs.GatheringLaws.{given_gift}
use Rattle.fp_component_rules.proofs.listing.port_list.Goals as goal

pub returns : goal.returns
returns c fs all within apart =
    given_gift fs c.args.component.now.members c.in_ok-gift.gift apart
    (subst (λ ms. IsGift fs ms c.in_ok-gift.gift) c.as_slice.ensures (c.in_ok-gift.ensures fs all (subst (ImportsWithin fs) (sym c.as_slice.ensures) within)))
