use Rattle.std.proofs.Common.{take}
use Rattle.fp_machines.specs.Counted.{AreCounted}
use Rattle.fp_machines.proofs.counting.count_table.Given as goal

abbrev pub invariant-loop-element : goal.invariant-loop-element
invariant-loop-element l = AreCounted (take l.element-index l.elements) l.table
