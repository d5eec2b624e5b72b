use Rattle.std.proofs.Common.{None}
use Rattle.fp_graph.specs.Visits.{Stage, state_of, Progress, Seen, work}
use Rattle.fp_graph.proofs.visit.finish.Given as goal

abbrev pub invariant-frames : goal.invariant-frames
invariant-frames l = record {
  stage : Stage l.stretches l.targets None (state_of l.walk);
  seen : Progress l.fn.walk.marks.items l.walk.marks.items;
  here : Seen l.walk.marks.items l.root;
}

abbrev pub decreases-frames : goal.decreases-frames
decreases-frames l = work l.stretches (state_of l.walk)
