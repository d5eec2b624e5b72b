use Rattle.std.specs.Prelude.{◌≡◌, ◌↔◌, ℕ, List, true}
use Rattle.std.specs.Ordering.{nat_cmp}
use Rattle.std.specs.BTreeSet.{contains}
use Rattle.fp_base.specs.Least.{InFirst, IsLeast}
use Rattle.fp_topologies.specs.MemberBroken.{Holds, LackingAt}
use Rattle.fp_topologies.proofs.members_broken.lacking_fault.Given as goal

abbrev pub invariant-loop-one : goal.invariant-loop-one
invariant-loop-one l = (list : List ℕ) → ((i : ℕ) → (contains nat_cmp l.held i ≡ true) ↔ Holds list i) → IsLeast (InFirst l.one-index (λ (k : ℕ). LackingAt list) l.used) l.first
