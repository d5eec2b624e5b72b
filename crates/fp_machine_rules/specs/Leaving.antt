-- Rows of the steps on from each vertex.
use Rattle.std.specs.Prelude.{◌≡◌, ℕ, ◌↔◌, ◌||◌, ◌⊎◌, Bool, false, List, length, slice_get, Option, Some, option_and_then, option_map, is_some, MatchBool}
use Rattle.fp_machine_rules.specs.declared.item.Target.{Target}
use Rattle.fp_machine_rules.specs.declared.item.Target.TheVariants.{Undefined}
use Rattle.fp_machine_rules.specs.declared.item.Form.{Form}
use Rattle.fp_machine_rules.specs.declared.item.Item.{Item}
use Rattle.fp_machine_rules.specs.declared.gathering.Move.{Move}
use Rattle.fp_machine_rules.specs.Members.{first_on}
use Rattle.fp_machine_rules.specs.Reaching.{IsAmong}
use Rattle.fp_machine_rules.specs.Inherited.{Counts}
use Rattle.fp_machine_rules.specs.Reached.{Leaves}
use Rattle.fp_machine_rules.specs.Visits.{row_at}

abbrev pub parent_at : List Item → ℕ → Option ℕ
parent_at items v = option_and_then (λ (x : Item). x.parent) (slice_get items v)

-- the targets of first transitions on signals that weren't noted are added, and their signals noted
pub record AddsOwn (ms : List Move) (had : ℕ → Bool) (row : List Target) (has : ℕ → Bool) (row' : List Target) : Type 0 where
  pub notes : (s : ℕ) → has s ≡ (had s || is_some (first_on s ms))
  pub keeps : (t : Target) → IsAmong row t → IsAmong row' t
  pub adds : (s : ℕ) (t : Target) → had s ≡ false → first_on s ms ≡ Some t → IsAmong row' t
  pub only : (t : Target) → IsAmong row' t → IsAmong row t ⊎ ((s : ℕ) × (had s ≡ false) × (first_on s ms ≡ Some t))

-- the targets of the transitions that count at a state
abbrev pub AreCounted : List Item → ℕ → List Target → Type 0
AreCounted items state row = (t : Target) → IsAmong row t ↔ ((s : ℕ) × Counts items state s t)

-- the targets of the steps on from a vertex
abbrev pub AreSteps : List Item → ℕ → List Target → Type 0
AreSteps items v row = (t : Target) → IsAmong row t ↔ Leaves items v t

pub record AreRows (items : List Item) (n : ℕ) (rows : List (List Target)) : Type 0 where
  pub each : length rows ≡ n
  pub exact : (v : ℕ) (row : List Target) → slice_get rows v ≡ Some row → AreSteps items v row

-- a flag for each item says whether it is so
pub record AreFlags (P : ℕ → Type 0) (n : ℕ) (flags : List Bool) : Type 0 where
  pub each : length flags ≡ n
  pub exact : (v : ℕ) (b : Bool) → slice_get flags v ≡ Some b → MatchBool b (P v) (P v → ⊥)

-- an undefined target stands among the first, or in a row of a vertex that was found
abbrev pub MeetsUndefined : List Target → List (List Target) → List ℕ → Type 0
MeetsUndefined starts rows found = IsAmong starts Undefined ⊎ ((v : ℕ) × IsAmong found v × IsAmong (row_at rows v) Undefined)

abbrev pub form_at : List Item → ℕ → Option Form
form_at items v = option_map (λ (x : Item). x.form) (slice_get items v)
