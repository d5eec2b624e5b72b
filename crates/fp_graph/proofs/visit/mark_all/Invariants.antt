use Rattle.std.proofs.Common.{◌≡◌, take}
use Rattle.fp_graph.specs.Visits.{marked}
use Rattle.fp_graph.proofs.visit.mark_all.Given as goal

abbrev pub invariant-loop-member : goal.invariant-loop-member
invariant-loop-member l = l.marks.items ≡ marked (take l.member-index l.members) l.cyclic l.initial.marks.items
