use Rattle.std.proofs.Common.{List}
use Rattle.fp_written_parts.specs.declared.member.WrittenInterface.{WrittenInterface}
use Rattle.fp_written_parts.specs.Giving.{ImportsWithin}
use Rattle.fp_component_rules.specs.Gifts.{AreGifts}
use Rattle.fp_component_rules.proofs.Clashing.{RepeatsFirst}
use Rattle.fp_component_rules.proofs.repeats.repeat_fault.Given as goal

abbrev pub invariant-loop-member : goal.invariant-loop-member
invariant-loop-member l = (interfaces : List WrittenInterface) → AreGifts interfaces l.gifts → ImportsWithin interfaces l.members
    → RepeatsFirst interfaces l.members l.member-index l.seen l.kinds l.first
