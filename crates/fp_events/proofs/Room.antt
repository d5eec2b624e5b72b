-- The first arguments of the walks over a machine are large enough.
use Rattle.std.proofs.Common.{◌≡◌, ℕ, zero, suc, ◌<◌, Bool, true, false, cond, Option, Some, None, List, [], ◌∷◌, refl, ap, arith}
use Rattle.fp_tables.specs.declared.machine.Machine.{Machine}
use Rattle.fp_tables.specs.declared.machine.Node.{Node}
use Rattle.fp_tables.specs.declared.machine.Node.TheVariants.{State, Choice}
use Rattle.fp_tables.specs.declared.machine.Step.{Step}
use Rattle.fp_events.specs.Machine.{Walk, climb, parent, node, answer, ask, upward, target_of, onward, goes, crossing, first_these, IsRanked}

module _ (m : Machine) where
  pub climb_none : (n : ℕ) → climb m n None ≡ []
  climb_none zero = refl
  climb_none (suc n) = refl

  -- where parents stand before their children, a vertex's number and one more are enough to climb from it
  pub climb_room : ((v p : ℕ) → parent m v ≡ Some p → p < v) → (n k v : ℕ) → v < n → v < k → climb m n (Some v) ≡ climb m k (Some v)
  climb_room before zero k v a b = absurd (omega arith)
  climb_room before (suc n) zero v a b = absurd (omega arith)
  climb_room before (suc n) (suc k) v a b = ap (λ (vs : List ℕ). v ∷ vs) (go (parent m v) refl (λ p x y. climb_room before n k p x y))
    where
      go : (o : Option ℕ) → parent m v ≡ o → ((p : ℕ) → p < n → p < k → climb m n (Some p) ≡ climb m k (Some p)) → climb m n o ≡ climb m k o
      go None is again = rw (climb_none n, climb_none k) refl
      go (Some p) is again = let low : p < v = before v p is in again p (omega arith) (omega arith)

module _ (m : Machine) (answers : ℕ → List Bool) where
  -- where each step goes to a lower rank, more steps than the target's rank change nothing
  onward_room : (rank : ℕ → ℕ) → IsRanked m rank → (f g : List ℕ → List ℕ → Step → List ℕ → Walk) (v : ℕ) (asked : List ℕ) (o : Option Node) → node m v ≡ o
      → ((around source : List ℕ) (step : Step) (now : List ℕ) → rank (target_of step) < rank v → f around source step now ≡ g around source step now)
      → onward m answers f v asked o ≡ onward m answers g v asked o
  onward_room rank ranked f g v asked None is same = refl
  onward_room rank ranked f g v asked (Some (State None entry exit transitions)) is same = refl
  onward_room rank ranked f g v asked (Some (State (Some step) entry exit transitions)) is same = same _ _ step asked (ranked.initial v step entry exit transitions is)
  onward_room rank ranked f g v asked (Some (Choice guard positive negative)) is same = go (answer m answers asked guard)
    where
      go : (b : Bool) → f (upward m (parent m v)) (upward m (parent m v)) (cond b positive negative) (ask m answers asked guard)
          ≡ g (upward m (parent m v)) (upward m (parent m v)) (cond b positive negative) (ask m answers asked guard)
      go true = same _ _ positive _ (ranked.branches v guard positive negative is).0
      go false = same _ _ negative _ (ranked.branches v guard positive negative is).1

  pub goes_room : (rank : ℕ → ℕ) → IsRanked m rank → (n k : ℕ) (around source : List ℕ) (step : Step) (asked : List ℕ)
      → rank (target_of step) < n → rank (target_of step) < k → goes m answers n around source step asked ≡ goes m answers k around source step asked
  goes_room rank ranked zero k around source step asked a b = absurd (omega arith)
  goes_room rank ranked (suc n) zero around source step asked a b = absurd (omega arith)
  goes_room rank ranked (suc n) (suc k) around source step asked a b =
      ap (first_these (crossing m around source step.actions (target_of step)))
      (onward_room rank ranked (goes m answers n) (goes m answers k) (target_of step) asked (node m (target_of step)) refl
      (λ x y next now low. goes_room rank ranked n k x y next now (omega (arith, low)) (omega (arith, low))))
