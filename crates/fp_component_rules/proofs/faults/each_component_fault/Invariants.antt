use Rattle.std.proofs.Common.{List}
use Rattle.fp_base.specs.Least.{InFirst, IsLeast}
use Rattle.fp_written_parts.specs.declared.member.WrittenInterface.{WrittenInterface}
use Rattle.fp_component_rules.specs.Gifts.{AreGifts}
use Rattle.fp_component_rules.specs.Lists.{AreImportsWithin}
use Rattle.fp_component_rules.specs.Broken.{ComponentBroken}
use Rattle.fp_component_rules.proofs.faults.each_component_fault.Given as goal

abbrev pub invariant-loop-component : goal.invariant-loop-component
invariant-loop-component l = (interfaces : List WrittenInterface) → AreGifts interfaces l.gifts → AreImportsWithin interfaces l.components
    → IsLeast (InFirst l.component-index (ComponentBroken interfaces) l.components) l.first
