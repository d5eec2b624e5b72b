use Rattle.std.proofs.Common.{List, take}
use Rattle.fp_written_parts.specs.declared.member.WrittenInterface.{WrittenInterface}
use Rattle.fp_component_rules.specs.Lists.{ArePortLists}
use Rattle.fp_components.specs.Resolved.{AreEach, IsComponent}
use Rattle.fp_components.specs.Whole.{AreWholeEach}
use Rattle.fp_components.proofs.components.resolved.Given as goal

abbrev pub invariant-loop-at : goal.invariant-loop-at
invariant-loop-at l = (interfaces : List WrittenInterface) → ArePortLists interfaces l.components l.lists → AreWholeEach interfaces l.definitions l.types.written.now l.components
    → AreEach (λ k. IsComponent interfaces l.definitions l.types.written.now) (take l.at l.components) l.row
