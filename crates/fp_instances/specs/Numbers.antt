-- Numbers from a low one to a high one.
use Rattle.std.specs.Prelude.{◌≡◌, ℕ, ℤ, pos, negsuc, ◌^◌, ◌-◌, false, int_lt, List, slice_get, Option, Some}
use Rattle.fp_written_parts.specs.declared.port.Given.{Given}
use Rattle.fp_written_parts.specs.declared.instance.WrittenInstance.{WrittenInstance}

abbrev pub IsWithin : ℤ → ℤ → Given → Type 0
IsWithin low high g = (n : ℤ) × (g.number ≡ Some n) × (int_lt n low ≡ false) × (int_lt high n ≡ false)

abbrev pub IsWithinWhereGiven : ℤ → ℤ → Option Given → Type 0
IsWithinWhereGiven low high o = (g : Given) → o ≡ Some g → IsWithin low high g

-- each number that is written has the size that it has in a model
pub record InstanceIsWithin (w : WrittenInstance) : Type 0 where
  pub base : IsWithin (pos 0) (pos (2 ^ 32 - 1)) w.base
  pub queue : IsWithinWhereGiven (pos 0) (pos (2 ^ 32 - 1)) w.queue
  pub stack : IsWithinWhereGiven (pos 0) (pos (2 ^ 64 - 1)) w.stack
  pub priority : IsWithinWhereGiven (negsuc (2 ^ 31 - 1)) (pos (2 ^ 31 - 1)) w.priority
  pub cpu : IsWithinWhereGiven (pos 0) (pos (2 ^ 32 - 1)) w.cpu

abbrev pub AreWithin : List WrittenInstance → Type 0
AreWithin ws = (k : ℕ) (w : WrittenInstance) → slice_get ws k ≡ Some w → InstanceIsWithin w
