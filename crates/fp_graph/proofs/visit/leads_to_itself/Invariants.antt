use Rattle.std.proofs.Common.{◌≡◌, ℕ, ◌<◌, ◌≤◌, Some, slice_get}
use Rattle.fp_graph.proofs.visit.leads_to_itself.Given as goal

abbrev pub invariant-loop-at : goal.invariant-loop-at
invariant-loop-at l = (k : ℕ) → l.initial.at ≤ k → k < l.at → slice_get l.targets k ≡ Some l.vertex → ⊥
