-- Rows of targets and their stretches.
use Rattle.std.proofs.Common.{◌≡◌, ◌↔◌, ◌∙◌, ℕ, zero, suc, ◌+◌, ◌<◌, ◌≤◌, ◌⊎◌, inl, inr, Bool, List, [], ◌∷◌, length, slice_get, Some, refl, sym, ap, subst, arith}
use Rattle.std.proofs.lemmas.Option.{slice_get_within}
use Rattle.fp_graph.specs.declared.stretch.Stretch.{Stretch}
use Rattle.fp_graph.specs.Graph.{Edge}
use Rattle.fp_graph.specs.Chains.{IsOnCycle, Chain, AreFlags, IsOrder}
use Rattle.fp_graph.proofs.Alike.{cyclic_alike, chains_alike, order_alike}
use Rattle.fp_base.proofs.Lists.{get_front}
use Rattle.fp_graph.proofs.Places.{get_right, get_joined}
use Rattle.fp_graph.specs.Rows.{IsListed, stretches_from, in_one}

pub as_many : (rows : List (List ℕ)) (first : ℕ) → length (stretches_from first rows) ≡ length rows
as_many [] first = refl
as_many (r ∷ rs) first = ap suc (as_many rs (first + length r))

-- a target of a row stands in the stretch of the row
record Stands (rows : List (List ℕ)) (first v to : ℕ) : Type 0 where
  stretch : Stretch
  here : slice_get (stretches_from first rows) v ≡ Some stretch
  at : ℕ
  since : stretch.first ≤ first + at
  before : first + at < stretch.end
  target : slice_get (in_one rows) at ≡ Some to

stands : (rows : List (List ℕ)) (first v k to : ℕ) (row : List ℕ) → slice_get rows v ≡ Some row → slice_get row k ≡ Some to → Stands rows first v to
stands [] first v k to row e f = cc
stands (r ∷ rs) first zero k to row e f =
    let same : r ≡ row = cc in
    let f_here : slice_get r k ≡ Some to = subst (λ (xs : List ℕ). slice_get xs k ≡ Some to) (sym same) f in
    let within = slice_get_within r k to f_here in
    record {
      stretch = record { first = first; end = first + length r };
      here = refl;
      at = k;
      since = omega arith;
      before = omega arith;
      target = get_front r (in_one rs) k to f_here;
    }
stands (r ∷ rs) first (suc v) k to row e f =
    let t = stands rs (first + length r) v k to row e f in
    let since = t.since in
    let before = t.before in
    record {
      stretch = t.stretch;
      here = t.here;
      at = length r + t.at;
      since = omega arith;
      before = omega arith;
      target = get_right r (in_one rs) to (length r + t.at) t.at refl t.target;
    }

behind : (rows : List (List ℕ)) (first v : ℕ) (s : Stretch) → slice_get (stretches_from first rows) v ≡ Some s → first ≤ s.first
behind [] first v s e = cc
behind (r ∷ rs) first zero s e = let same : first ≡ s.first = cc in omega arith
behind (r ∷ rs) first (suc v) s e = let h = behind rs (first + length r) v s e in omega arith

-- and what stands in the stretch of a row is a target of the row
record Is (rows : List (List ℕ)) (v to : ℕ) : Type 0 where
  row : List ℕ
  here : slice_get rows v ≡ Some row
  k : ℕ
  target : slice_get row k ≡ Some to

of_row : (rows : List (List ℕ)) (first v at to : ℕ) (s : Stretch) → slice_get (stretches_from first rows) v ≡ Some s → s.first ≤ first + at → first + at < s.end
    → slice_get (in_one rows) at ≡ Some to → Is rows v to
of_row [] first v at to s e since before f = cc
of_row (r ∷ rs) first zero at to s e since before f = go (get_joined r (in_one rs) to at f)
  where
    go : (slice_get r at ≡ Some to) ⊎ ((k : ℕ) × (at ≡ length r + k) × (slice_get (in_one rs) k ≡ Some to)) → Is (r ∷ rs) zero to
    go (inl h) = record { row = r; here = refl; k = at; target = h }
    go (inr (k, is, h)) = let same : first + length r ≡ s.end = cc in absurd (omega arith)
of_row (r ∷ rs) first (suc v) at to s e since before f = go (get_joined r (in_one rs) to at f) (λ k h g t. of_row rs (first + length r) v k to s e h g t)
  where
    go : (slice_get r at ≡ Some to) ⊎ ((k : ℕ) × (at ≡ length r + k) × (slice_get (in_one rs) k ≡ Some to))
        → ((k : ℕ) → s.first ≤ first + length r + k → first + length r + k < s.end → slice_get (in_one rs) k ≡ Some to → Is rs v to) → Is (r ∷ rs) (suc v) to
    go (inl h) next =
        let within = slice_get_within r at to h in
        let later = behind rs (first + length r) v s e in
        absurd (omega arith)
    go (inr (k, is, h)) next =
        let t = next k (omega arith) (omega arith) h in
        record { row = t.row; here = t.here; k = t.k; target = t.target }

module _ (rows : List (List ℕ)) (from to : ℕ) where
  pub edge_of : IsListed rows from to → Edge (stretches_from 0 rows) (in_one rows) from to
  edge_of l =
      let t = stands rows 0 from l.k to l.row l.here l.target in
      let since = t.since in
      let before = t.before in
      let many = as_many rows 0 in
      let within = l.within in
      record { stretch = t.stretch; here = t.here; at = t.at; since = omega arith; before = omega arith; target = t.target; within = omega arith }

  pub listed_of : Edge (stretches_from 0 rows) (in_one rows) from to → IsListed rows from to
  listed_of e =
      let since = e.since in
      let before = e.before in
      let t = of_row rows 0 from e.at to e.stretch e.here (omega arith) (omega arith) e.target in
      let many = as_many rows 0 in
      let within = e.within in
      record { row = t.row; here = t.here; k = t.k; target = t.target; within = omega arith }

pub same_graph : (rows : List (List ℕ)) (from to : ℕ) → IsListed rows from to ↔ Edge (stretches_from 0 rows) (in_one rows) from to
same_graph rows from to = (edge_of rows from to, listed_of rows from to)

-- the same where the stretches and targets are known by equations
module _ (rows : List (List ℕ)) (stretches : List Stretch) (targets : List ℕ) (s : stretches ≡ stretches_from 0 rows) (t : targets ≡ in_one rows) where
  same_edge : (from to : ℕ) → Edge (stretches_from 0 rows) (in_one rows) from to ≡ Edge stretches targets from to
  same_edge from to =
      ap (λ (ss : List Stretch). Edge ss (in_one rows) from to) (sym s) ∙ ap (λ (ts : List ℕ). Edge stretches ts from to) (sym t)

  to_listed : (from to : ℕ) → Edge stretches targets from to → IsListed rows from to
  to_listed from to e = listed_of rows from to (subst (λ (X : Type 0). X) (sym (same_edge from to)) e)

  to_edge : (from to : ℕ) → IsListed rows from to → Edge stretches targets from to
  to_edge from to l = subst (λ (X : Type 0). X) (same_edge from to) (edge_of rows from to l)

  many : length stretches ≡ length rows
  many = ap (λ (ss : List Stretch). length ss) s ∙ as_many rows 0

  pub listed_order : (order : List ℕ) → IsOrder (length stretches) (Edge stretches targets) order → IsOrder (length rows) (IsListed rows) order
  listed_order = order_alike (length stretches) (length rows) (Edge stretches targets) (IsListed rows) many to_listed to_edge

  pub listed_cyclic : (flags : List Bool) → AreFlags (length stretches) (IsOnCycle (Edge stretches targets)) flags → AreFlags (length rows) (IsOnCycle (IsListed rows)) flags
  listed_cyclic = cyclic_alike (length stretches) (length rows) (Edge stretches targets) (IsListed rows) many to_listed to_edge

  pub listed_chains : (k : ℕ) (flags : List Bool) → AreFlags (length stretches) (λ v. Chain (length stretches) (Edge stretches targets) v k) flags
      → AreFlags (length rows) (λ v. Chain (length rows) (IsListed rows) v k) flags
  listed_chains = chains_alike (length stretches) (length rows) (Edge stretches targets) (IsListed rows) many to_listed to_edge
