-- The order in which the elements of a machine stand: each behind the state that it stands in, and between the two only what stands in that state
-- too.
use Rattle.std.specs.Prelude.{◌≡◌, ◌⊎◌, ◌<◌, ◌||◌, ℕ, suc, Bool, true, List, slice_get, Some, None}
use Rattle.fp_tree.specs.declared.machine.BehaviorElement.{BehaviorElement}
use Rattle.fp_tree.specs.declared.machine.ElementForm.{ElementForm}
use Rattle.fp_machine_rules.specs.declared.item.Item.{Item}
use Rattle.fp_machine_rules.specs.Forms.{Inside, IsState, StandsIn}
use Rattle.fp_machines.specs.Outline.{outline}
use Rattle.fp_machines.specs.Made.{is_action, is_guard, is_signal}

-- an item, by its position, in a state
pub record StandsBehind (items : List Item) (v state : ℕ) : Type 0 where
  pub before : state < v
  pub is_state : IsState items state
  -- right behind the state, or behind something that stands in it
  pub beside : (v ≡ suc state) ⊎ ((u : ℕ) × (v ≡ suc u) × Inside items state u)

abbrev pub AreInOrder : List Item → Type 0
AreInOrder items = (v state : ℕ) → StandsIn items v (Some state) → StandsBehind items v state

-- a signal, an action or a guard
abbrev pub declares : ElementForm → Bool
declares f = is_signal f || is_action f || is_guard f

-- they stand in their order, and declarations in the machine itself
pub record AreWellPlaced (es : List BehaviorElement) : Type 0 where
  pub in_order : AreInOrder (outline es)
  pub declared_outside : (at : ℕ) (e : BehaviorElement) → slice_get es at ≡ Some e → declares e.form ≡ true → e.parent ≡ None
