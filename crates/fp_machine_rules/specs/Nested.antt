-- Machines that are too large: a limit of this program, not of the standard.
use Rattle.std.specs.Prelude.{◌≡◌, ℕ, ◌+◌, ◌<◌, ◌≤◌, ◌⊎◌, List, length, filter, slice_get, Some, None}
use Rattle.fp_machine_rules.specs.declared.item.Item.{Item}
use Rattle.fp_machine_rules.specs.Forms.{is_signal, is_vertex, IsVertex, StandsIn}

module _ (items : List Item) where
  -- so many levels deep, the outermost items at 1
  pub data Deep : ℕ → ℕ → Type 0 where
    outermost : {v : ℕ} → StandsIn items v None → Deep v 1
    below : {v parent n : ℕ} → StandsIn items v (Some parent) → Deep parent n → Deep v (n + 1)

  -- it is a state or a choice and stands deeper than 16 levels
  pub record IsTooDeepAt (vertex : ℕ) : Type 0 where
    pub is : IsVertex items vertex
    pub levels : ℕ
    pub deep : Deep vertex levels
    pub past : 16 < levels

  abbrev pub NestsTooDeep : Type 0
  NestsTooDeep = (vertex : ℕ) × IsTooDeepAt vertex

  -- that, or more than 1,000 states and choices, or more than 1,000 signals
  abbrev pub IsTooLarge : Type 0
  IsTooLarge = NestsTooDeep ⊎ (1000 < length (filter (λ (x : Item). is_vertex x.form) items)) ⊎ (1000 < length (filter (λ (x : Item). is_signal x.form) items))

  -- how deep each of the first n items stands
  pub record AreDepths (n : ℕ) (depths : List ℕ) : Type 0 where
    pub each : length depths ≡ n
    pub exact : (v d : ℕ) → slice_get depths v ≡ Some d → Deep v d
    pub small : (v d : ℕ) → slice_get depths v ≡ Some d → d ≤ v + 1
