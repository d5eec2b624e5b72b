-- What stands directly in a state, or in the machine itself, in order. FPP Language Specification, "State Machine Behavior Elements".
use Rattle.std.specs.Prelude.{◌≡◌, ℕ, Bool, true, false, cond, ◌==◌, List, [], ◌∷◌, length, filter, flat_map, Option, Some, None}
use Rattle.fp_machine_rules.specs.declared.item.Target.{Target}
use Rattle.fp_machine_rules.specs.declared.item.Form.{Form}
use Rattle.fp_machine_rules.specs.declared.item.Form.TheVariants.{State, Choice, Initial, On}
use Rattle.fp_machine_rules.specs.declared.item.Item.{Item}
use Rattle.fp_machine_rules.specs.declared.gathering.Move.{Move}
use Rattle.fp_machine_rules.specs.Forms.{IsState}

abbrev pub same_place : Option ℕ → Option ℕ → Bool
same_place None None = true
same_place None (Some q) = false
same_place (Some p) None = false
same_place (Some p) (Some q) = p == q

-- the items that stand directly in it
abbrev pub members : List Item → Option ℕ → List Item
members items p = filter (λ (x : Item). same_place p x.parent) items

abbrev pub name_in : Form → List ℕ
name_in (State name) = name ∷ []
name_in (Choice name met unmet) = name ∷ []
name_in _ = []

abbrev pub initial_in : Form → List Target
initial_in (Initial target) = target ∷ []
initial_in _ = []

abbrev pub move_in : Form → List Move
move_in (On signal means target) = record { signal = signal; target = target } ∷ []
move_in _ = []

-- the target of the first transition on a signal
abbrev pub first_on : ℕ → List Move → Option Target
first_on signal [] = None
first_on signal (m ∷ ms) = cond (m.signal == signal) (Some m.target) (first_on signal ms)

-- one initial transition is wanted where states or choices stand, and none where not
abbrev pub wanted_beside : List ℕ → ℕ
wanted_beside [] = 0
wanted_beside (name ∷ more) = 1

module _ (items : List Item) (p : Option ℕ) where
  -- the names of its states and choices
  abbrev pub names : List ℕ
  names = flat_map (λ (x : Item). name_in x.form) (members items p)

  -- the targets of its initial transitions
  abbrev pub initials : List Target
  initials = flat_map (λ (x : Item). initial_in x.form) (members items p)

  -- its transitions
  abbrev pub moves : List Move
  moves = flat_map (λ (x : Item). move_in x.form) (members items p)

  -- it has an initial transition more or less than is wanted
  abbrev pub CountsWrong : Type 0
  CountsWrong = length initials ≡ wanted_beside names → ⊥

-- the machine itself should always have one
abbrev pub MachineCountsWrong : List Item → Type 0
MachineCountsWrong items = length (initials items None) ≡ 1 → ⊥

abbrev pub StateCountsWrong : List Item → ℕ → Type 0
StateCountsWrong items v = IsState items v × CountsWrong items (Some v)
