use Rattle.std.proofs.Common.{◌≡◌, ℕ, List, length, None}
use Rattle.fp_names.specs.Tree.{step, meaning_at}
use Rattle.fp_names.proofs.tree.roots.Given as goal

abbrev pub invariant-loop : goal.invariant-loop
invariant-loop l = record {
  each : length l.nodes.items ≡ l.counter;
  steps : (k : ℕ) (name : List ℕ) → step l.nodes.items k name ≡ None;
  meanings : (k : ℕ) → meaning_at l.nodes.items k ≡ None;
}
