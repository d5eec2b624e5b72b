-- The instances of a model, from what is written of them. FPP Language Specification, "Component Instance Definitions".
use Rattle.std.specs.Prelude.{◌≡◌, ℕ, ℤ, pos, List, length, slice_get, Option, Some, None}
use Rattle.fp_tables.specs.declared.topology.Instance.{Instance}
use Rattle.fp_written_parts.specs.declared.port.Given.{Given}
use Rattle.fp_written_parts.specs.declared.instance.WrittenInstance.{WrittenInstance}

-- the number of what may be left out, as it is counted here
abbrev pub IsNumber : {A : Type 0} → (A → ℤ) → Option Given → Option A → Type 0
IsNumber here None o = o ≡ None
IsNumber {A = A} here (Some g) o = (n : A) × (g.number ≡ Some (here n)) × (o ≡ Some n)

pub record IsInstance (w : WrittenInstance) (x : Instance) : Type 0 where
  pub name : x.name ≡ w.name
  pub component : x.component ≡ w.component
  pub base : w.base.number ≡ Some (pos x.base)
  pub queue : IsNumber pos w.queue x.queue
  pub stack : IsNumber pos w.stack x.stack
  pub priority : IsNumber (λ n. n) w.priority x.priority
  pub cpu : IsNumber pos w.cpu x.cpu

-- in the order in which they are written
pub record AreInstances (ws : List WrittenInstance) (xs : List Instance) : Type 0 where
  pub each : length xs ≡ length ws
  pub at : (k : ℕ) (w : WrittenInstance) (x : Instance) → slice_get ws k ≡ Some w → slice_get xs k ≡ Some x → IsInstance w x
