-- What items are, and where they stand.
use Rattle.std.specs.Prelude.{◌≡◌, ℕ, ◌<◌, Bool, true, false, List, slice_get, Option, Some, None}
use Rattle.fp_machine_rules.specs.declared.item.Form.{Form}
use Rattle.fp_machine_rules.specs.declared.item.Form.TheVariants as form
use Rattle.fp_machine_rules.specs.declared.item.Declaration.TheVariants as declaration
use Rattle.fp_machine_rules.specs.declared.item.Item.{Item}

abbrev pub is_state : Form → Bool
is_state (form.State name) = true
is_state _ = false

abbrev pub is_choice : Form → Bool
is_choice (form.Choice name met unmet) = true
is_choice _ = false

-- states and choices are the machine's vertices
abbrev pub is_vertex : Form → Bool
is_vertex (form.State name) = true
is_vertex (form.Choice name met unmet) = true
is_vertex _ = false

-- it declares a signal
abbrev pub is_signal : Form → Bool
is_signal (form.Declares (declaration.Signal name)) = true
is_signal _ = false

-- an item of this form stands directly in this state, or in the machine itself
pub record Stands (items : List Item) (v : ℕ) (f : Form) (p : Option ℕ) : Type 0 where
  pub item : Item
  pub here : slice_get items v ≡ Some item
  pub form : item.form ≡ f
  pub parent : item.parent ≡ p

module _ (items : List Item) where
  pub record IsOf (test : Form → Bool) (v : ℕ) : Type 0 where
    pub item : Item
    pub here : slice_get items v ≡ Some item
    pub holds : test item.form ≡ true

  abbrev pub IsState : ℕ → Type 0
  IsState v = IsOf is_state v

  abbrev pub IsChoice : ℕ → Type 0
  IsChoice v = IsOf is_choice v

  abbrev pub IsVertex : ℕ → Type 0
  IsVertex v = IsOf is_vertex v

  pub record StandsIn (v : ℕ) (p : Option ℕ) : Type 0 where
    pub item : Item
    pub here : slice_get items v ≡ Some item
    pub parent : item.parent ≡ p

  -- in the state at any depth
  pub data Inside (state : ℕ) : ℕ → Type 0 where
    directly : {v : ℕ} → StandsIn v (Some state) → Inside state v
    deeper : {v around : ℕ} → StandsIn v (Some around) → Inside state around → Inside state v

  -- everything is inside the machine
  abbrev pub InsideOf : Option ℕ → ℕ → Type 0
  InsideOf None v = Unit {0}
  InsideOf (Some state) v = Inside state v

  abbrev pub IsLaidAt : ℕ → Item → Type 0
  IsLaidAt v x = (p : ℕ) → x.parent ≡ Some p → (p < v) × IsState p

  -- each item stands in a state before it, or in the machine itself
  abbrev pub IsLaid : Type 0
  IsLaid = (v p : ℕ) → StandsIn v (Some p) → (p < v) × IsState p
