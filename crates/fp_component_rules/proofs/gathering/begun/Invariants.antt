use Rattle.std.proofs.Common.{take}
use Rattle.fp_component_rules.specs.Gifts.{AreBegun}
use Rattle.fp_component_rules.proofs.gathering.begun.Given as goal

abbrev pub invariant-loop-at : goal.invariant-loop-at
invariant-loop-at l = AreBegun (take l.at l.cyclic) l.gifts.items
