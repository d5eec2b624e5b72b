-- Ids and opcodes, written or implied. FPP Language Specification, "Command Specifiers", "Event Specifiers", "Telemetry Channel Specifiers", "Parameter
-- Specifiers".
use Rattle.std.specs.Prelude.{◌≡◌, ℕ, zero, suc, ◌<◌, ◌^◌, ℤ, pos, ◌+ℤ◌, List, length, slice_get, Option, None, Some}
use Rattle.fp_written_parts.specs.declared.port.Given.{Given}
use Rattle.fp_dictdefs.specs.declared.listed.Listed.{Listed}

-- the number that is written, else one that is implied
abbrev pub IsGivenOr : (ℤ → Type 0) → Option Given → ℤ → Type 0
IsGivenOr implied None n = implied n
IsGivenOr implied (Some g) n = g.number ≡ Some n

-- the id of the k-th in a list, by what is implied there
abbrev pub IsIdBy : (ℤ → Type 0) → List Listed → ℕ → ℤ → Type 0
IsIdBy implied xs k n = (x : Listed) × (slice_get xs k ≡ Some x) × IsGivenOr implied x.id n

-- what is implied: 0 for the first, and for each later one the id before it plus one
abbrev pub IsImplied : List Listed → ℕ → ℤ → Type 0
IsImplied xs zero n = n ≡ pos 0
IsImplied xs (suc k) n = (m : ℤ) × IsIdBy (IsImplied xs k) xs k m × (n ≡ m +ℤ pos 1)

-- the id of the k-th in a list
abbrev pub HasId : List Listed → ℕ → ℤ → Type 0
HasId xs k = IsIdBy (IsImplied xs k) xs k

-- one for each of a list: its id, where that is one of 32 bits
pub record AreIds (xs : List Listed) (ids : List ℕ) : Type 0 where
  pub each : length ids ≡ length xs
  pub of : (k id n : ℕ) → slice_get ids k ≡ Some id → HasId xs k (pos n) → n < 2 ^ 32 → id ≡ n
