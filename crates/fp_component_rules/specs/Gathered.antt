-- What was gathered of interfaces, one after another.
use Rattle.std.specs.Prelude.{◌≡◌, ℕ, ◌<◌, List, length, slice_get, Some}
use Rattle.fp_written_parts.specs.declared.port.WrittenImport.{WrittenImport}
use Rattle.fp_written_parts.specs.declared.member.WrittenInterface.{WrittenInterface}
use Rattle.fp_written_parts.specs.Giving.{IsCyclic}
use Rattle.fp_component_rules.specs.declared.gift.Gift.{Gift}
use Rattle.fp_component_rules.specs.Gifts.{IsServed}

module _ (interfaces : List WrittenInterface) where
  -- the gift of an interface stands in the table
  abbrev pub HasGift : List Gift → ℕ → Type 0
  HasGift gifts v = (i : WrittenImport) → i.interface ≡ v → IsServed interfaces gifts i

  -- those of the first of an order, and of all that are on a cycle
  pub record AreGathered (order : List ℕ) (count : ℕ) (gifts : List Gift) : Type 0 where
    pub each : length gifts ≡ length interfaces
    pub done : (k v : ℕ) → k < count → slice_get order k ≡ Some v → HasGift gifts v
    pub cyclic : (v : ℕ) → v < length interfaces → IsCyclic interfaces v → HasGift gifts v
