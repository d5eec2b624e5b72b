use Rattle.std.proofs.Common.{List}
use Rattle.fp_base.specs.Least.{InFirst, IsLeast}
use Rattle.fp_written_parts.specs.declared.member.WrittenInterface.{WrittenInterface}
use Rattle.fp_written_parts.specs.Giving.{ImportsWithin}
use Rattle.fp_component_rules.specs.Gifts.{AreGifts}
use Rattle.fp_component_rules.specs.Broken.{UseAt}
use Rattle.fp_component_rules.proofs.queueing.use_fault.Given as goal

abbrev pub invariant-loop-member : goal.invariant-loop-member
invariant-loop-member l = (interfaces : List WrittenInterface) → AreGifts interfaces l.gifts → ImportsWithin interfaces l.members
    → IsLeast (InFirst l.member-index (UseAt interfaces) l.members) l.first
