use Rattle.fp_base.specs.Least.{InFirst, IsLeast}
use Rattle.fp_component_rules.specs.Gifts.{AreGifts, AreWithin}
use Rattle.fp_component_rules.specs.Broken.{InterfaceBroken}
use Rattle.fp_component_rules.proofs.faults.interfaces_fault.Given as goal

abbrev pub invariant-loop-interface : goal.invariant-loop-interface
invariant-loop-interface l = AreGifts l.interfaces l.gifts → AreWithin l.interfaces → IsLeast (InFirst l.interface-index (InterfaceBroken l.interfaces) l.interfaces) l.first
