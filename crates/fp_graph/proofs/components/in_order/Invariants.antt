use Rattle.std.proofs.Common.{ℕ, ◌<◌}
use Rattle.fp_graph.specs.Visits.{IsResting, Seen, state_of}
use Rattle.fp_graph.proofs.components.in_order.Given as goal

abbrev pub invariant-roots : goal.invariant-roots
invariant-roots l = record {
  rests : IsResting l.stretches l.targets (state_of l.walk);
  seen : (v : ℕ) → v < l.root → Seen l.walk.marks.items v;
}
