-- Vertices, which are numbers, that lead to one another: which are on a cycle, which begin a chain of so many steps that meets none, and
-- an order in which each stands behind all that it leads to.
use Rattle.std.specs.Prelude.{◌≡◌, ℕ, zero, suc, ◌<◌, Bool, MatchBool, List, length, slice_get, Some}

module _ (Leads : ℕ → ℕ → Type 0) where
  -- from the one to the other in one step after another, at least one
  pub data LeadsThrough : ℕ → ℕ → Type 0 where
    one : {from to : ℕ} → Leads from to → LeadsThrough from to
    more : {from between to : ℕ} → LeadsThrough from between → Leads between to → LeadsThrough from to

  -- it leads to itself, perhaps through others
  abbrev pub IsOnCycle : ℕ → Type 0
  IsOnCycle v = LeadsThrough v v

-- flags that say of each of so many vertices whether something holds of it
pub record AreFlags (count : ℕ) (P : ℕ → Type 0) (flags : List Bool) : Type 0 where
  pub each : length flags ≡ count
  pub exact : (v : ℕ) (flag : Bool) → slice_get flags v ≡ Some flag → MatchBool flag (P v) (P v → ⊥)

-- of so many vertices
module _ (count : ℕ) (Leads : ℕ → ℕ → Type 0) where
  -- so many steps one after another from a vertex on; none of the vertices is on a cycle
  pub data Chain : ℕ → ℕ → Type 0 where
    alone : {v : ℕ} → v < count → ¬ IsOnCycle Leads v → Chain v zero
    longer : {v next n : ℕ} → ¬ IsOnCycle Leads v → Leads v next → Chain next n → Chain v (suc n)

  -- each vertex once, those that it leads to before it unless it is on a cycle
  pub record IsOrder (order : List ℕ) : Type 0 where
    pub all : (v : ℕ) → v < count → (k : ℕ) × (slice_get order k ≡ Some v)
    pub within : (k v : ℕ) → slice_get order k ≡ Some v → v < count
    pub once : (j k v : ℕ) → slice_get order j ≡ Some v → slice_get order k ≡ Some v → j ≡ k
    pub behind : (k v w : ℕ) → slice_get order k ≡ Some v → ¬ IsOnCycle Leads v → Leads v w → (j : ℕ) × (j < k) × (slice_get order j ≡ Some w)

  -- an order, and which are on a cycle
  pub record IsSorted (order : List ℕ) (cyclic : List Bool) : Type 0 where
    pub ordered : IsOrder order
    pub flagged : AreFlags count (IsOnCycle Leads) cyclic
