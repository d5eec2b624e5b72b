use Rattle.std.proofs.Common.{◌≡◌, map, take}
use Rattle.fp_graph.specs.Visits.{is_cyclic}
use Rattle.fp_graph.proofs.components.flags.Given as goal

abbrev pub invariant-loop-mark : goal.invariant-loop-mark
invariant-loop-mark l = l.flags.items ≡ map is_cyclic (take l.mark-index l.marks)
