use Rattle.std.proofs.Common.{List, take}
use Rattle.fp_written_parts.specs.declared.member.WrittenInterface.{WrittenInterface}
use Rattle.fp_component_rules.specs.Gifts.{AreGifts}
use Rattle.fp_component_rules.specs.Lists.{AreImportsWithin, AreNamedOnce, ArePortLists}
use Rattle.fp_component_rules.proofs.listing.port_lists.Given as goal

abbrev pub invariant-loop-component : goal.invariant-loop-component
invariant-loop-component l = (interfaces : List WrittenInterface) → AreGifts interfaces l.gifts → AreImportsWithin interfaces l.components → AreNamedOnce interfaces l.components
    → ArePortLists interfaces (take l.component-index l.components) l.lists
