use Rattle.std.proofs.Common.{take, length, List}
use Rattle.fp_tree.specs.declared.machine.BehaviorElement.{BehaviorElement}
use Rattle.fp_machines.specs.Gathered.{AreGathered}
use Rattle.fp_machines.specs.Named.{AreNames}
use Rattle.fp_machines.proofs.gathering.gather.Given as goal

abbrev pub invariant-loop-element : goal.invariant-loop-element
invariant-loop-element l =
    (es : List BehaviorElement) → AreNames es l.names → AreGathered es (take l.element-index l.elements) (length l.elements) l.gathered.table.items l.gathered.top
