use Rattle.std.proofs.Common.{List}
use Rattle.fp_base.specs.Least.{InFirst, IsLeast}
use Rattle.fp_written_parts.specs.declared.member.WrittenInterface.{WrittenInterface}
use Rattle.fp_component_rules.specs.Gifts.{IsGift}
use Rattle.fp_component_rules.specs.Broken.{MatchAt}
use Rattle.fp_component_rules.proofs.matching.matches_fault.Given as goal

abbrev pub invariant-loop-member : goal.invariant-loop-member
invariant-loop-member l = (interfaces : List WrittenInterface) → IsGift interfaces l.members l.gift → IsLeast (InFirst l.member-index (λ k. MatchAt interfaces l.members) l.members) l.first
