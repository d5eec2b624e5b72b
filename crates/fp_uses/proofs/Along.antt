-- What holds of rows that list a relation holds of the relation.
use Rattle.std.proofs.Common.{◌≡◌, ◌↔◌, ℕ, Bool, List, length}
use Rattle.fp_graph.specs.Chains.{AreFlags, Chain, IsOnCycle, IsOrder}
use Rattle.fp_graph.specs.Rows.{IsListed}
use Rattle.fp_graph.proofs.Alike.{order_alike, cyclic_alike, chains_alike}

module _ (count : ℕ) (rows : List (List ℕ)) (Leads : ℕ → ℕ → Type 0) (many : length rows ≡ count) (same : (v w : ℕ) → Leads v w ↔ IsListed rows v w) where
  pub order_along : (order : List ℕ) → IsOrder (length rows) (IsListed rows) order → IsOrder count Leads order
  order_along = order_alike (length rows) count (IsListed rows) Leads many (λ v w. (same v w).1) (λ v w. (same v w).0)

  pub cyclic_along : (flags : List Bool) → AreFlags (length rows) (IsOnCycle (IsListed rows)) flags → AreFlags count (IsOnCycle Leads) flags
  cyclic_along = cyclic_alike (length rows) count (IsListed rows) Leads many (λ v w. (same v w).1) (λ v w. (same v w).0)

  pub deep_along : (flags : List Bool) → AreFlags (length rows) (λ v. Chain (length rows) (IsListed rows) v 256) flags → AreFlags count (λ v. Chain count Leads v 256) flags
  deep_along = chains_alike (length rows) count (IsListed rows) Leads many (λ v w. (same v w).1) (λ v w. (same v w).0) 256
