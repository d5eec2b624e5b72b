use Rattle.std.proofs.Common.{List, take}
use Rattle.fp_written_parts.specs.declared.member.WrittenInterface.{WrittenInterface}
use Rattle.fp_component_rules.specs.Gifts.{IsGift, Serves}
use Rattle.fp_component_rules.proofs.gift.gift_among.Given as goal

abbrev pub invariant-loop-member : goal.invariant-loop-member
invariant-loop-member l = (interfaces : List WrittenInterface) → Serves interfaces l.gifts l.members → IsGift interfaces (take l.member-index l.members) l.gift
