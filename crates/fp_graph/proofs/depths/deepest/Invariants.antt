use Rattle.std.proofs.Common.{◌≡◌, ℕ, ◌<◌, ◌≤◌, slice_get}
use Rattle.fp_graph.specs.Depths.{depth_in}
use Rattle.fp_graph.proofs.depths.deepest.Given as goal

abbrev pub invariant-loop-at : goal.invariant-loop-at
invariant-loop-at l = record {
  bound : (at : ℕ) → l.initial.at ≤ at → at < l.at → depth_in l.depths (slice_get l.targets at) ≤ l.most;
  reached : 0 < l.most → (at : ℕ) × (l.initial.at ≤ at) × (at < l.at-end) × (depth_in l.depths (slice_get l.targets at) ≡ l.most);
}
