-- What a guard answers, by the answers given.
use native.Mathlib.Numerals.{unary_clauses}
use Rattle.std.proofs.lemmas.Bool.Decides.{nat_tests}
use Rattle.std.proofs.lemmas.Option.{slice_get_read}
use Rattle.std.specs.Option.{unwrap_or}
use Rattle.std.proofs.Common.{◌≡◌, ℕ, zero, suc, ◌-◌, ◌≤◌, nat_lt, get_or, Bool, true, false, List, [], ◌∷◌, length, Some, slice_get, refl, arith}
use Rattle.fp_base.proofs.Numbers.{is_below}
use Rattle.fp_events.specs.Machine.{answer_at}

pub within : (given : List Bool) (k : ℕ) (b : Bool) → slice_get given k ≡ Some b → b ≡ answer_at given k
within [] k b e = cc
within (x ∷ []) zero b e = cc
within (x ∷ []) (suc k) b e = cc
within (x ∷ y ∷ rest) zero b e = cc
within (x ∷ y ∷ rest) (suc k) b e = within (y ∷ rest) k b e

pub past : (given : List Bool) (k : ℕ) → length given ≤ k → unwrap_or (slice_get given (length given - 1)) true ≡ answer_at given k
past [] k h = refl
past (x ∷ []) k h = refl
past (x ∷ y ∷ rest) zero h = absurd (omega (arith, h))
past (x ∷ y ∷ rest) (suc k) h = simp unary_clauses (simp unary_clauses at (past (y ∷ rest) k (omega (arith, h))))

pub not_less : (a b : ℕ) → false ≡ nat_lt a b → b ≤ a
not_less a b e = grind (arith, nat_tests)

pub within_read : (given : List Bool) (k : ℕ) (b : Bool) → true ≡ nat_lt k (length given) → b ≡ get_or given k b → b ≡ answer_at given k
within_read given k b e h = within given k b (slice_get_read given (length given) k b refl (is_below k (length given) e) h)
