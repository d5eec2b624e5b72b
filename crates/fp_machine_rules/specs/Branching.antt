-- Rows of the branches of choices, and the targets of initial transitions.
use Rattle.std.specs.Prelude.{ℕ, List, [], ◌∷◌, map, Option, Some, None}
use Rattle.fp_machine_rules.specs.declared.item.Target.{Target}
use Rattle.fp_machine_rules.specs.declared.item.Form.{Form}
use Rattle.fp_machine_rules.specs.declared.item.Form.TheVariants.{Choice, Initial}
use Rattle.fp_machine_rules.specs.declared.item.Item.{Item}
use Rattle.fp_machine_rules.specs.Forms.{IsState, InsideOf}
use Rattle.fp_machine_rules.specs.Reaching.{IsAmong}

abbrev pub branches_in : Form → List Target
branches_in (Choice name met unmet) = met ∷ unmet ∷ []
branches_in _ = []

-- for each item the targets of its branches
abbrev pub branch_rows : List Item → List (List Target)
branch_rows items = map (λ (x : Item). branches_in x.form) items

abbrev pub initial_target : Form → Option Target
initial_target (Initial target) = Some target
initial_target _ = None

-- a state that doesn't stand inside
abbrev pub IsOutside : List Item → Option ℕ → ℕ → Type 0
IsOutside items p v = IsState items v × (InsideOf items p v → ⊥)

abbrev pub SomeOutside : List Item → Option ℕ → List ℕ → Type 0
SomeOutside items p found = (v : ℕ) × IsAmong found v × IsOutside items p v
