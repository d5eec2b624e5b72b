-- What is behind a target through choices.
use Rattle.std.specs.Prelude.{◌≡◌, ℕ, List, Option}
use Rattle.fp_machine_rules.specs.declared.item.Target.{Target}
use Rattle.fp_machine_rules.specs.declared.item.Target.TheVariants.{To}
use Rattle.fp_machine_rules.specs.declared.item.Form.TheVariants.{Choice, Initial}
use Rattle.fp_machine_rules.specs.declared.item.Item.{Item}
use Rattle.fp_machine_rules.specs.Forms.{Stands, IsState, InsideOf}

module _ (items : List Item) where
  -- a choice leads to the targets of its branches
  pub data Branches : ℕ → Target → Type 0 where
    met : {v name : ℕ} {target other : Target} {p : Option ℕ} → Stands items v (Choice name target other) p → Branches v target
    unmet : {v name : ℕ} {target other : Target} {p : Option ℕ} → Stands items v (Choice name other target) p → Branches v target

  -- through as many choices as one likes, also none
  pub data Through (from : ℕ) : ℕ → Type 0 where
    here : Through from from
    past : {v w : ℕ} → Through from v → Branches v (To w) → Through from w

  -- an initial target of it from which choices lead to a state that doesn't stand inside
  pub record Escapes (p : Option ℕ) (target : Target) : Type 0 where
    pub vertex : ℕ
    pub to : target ≡ To vertex
    pub state : ℕ
    pub is : IsState items state
    pub reaches : Through vertex state
    pub outside : InsideOf items p state → ⊥

  -- an initial transition of a state, or of the machine, that does so
  pub record LeavesItsState (v : ℕ) : Type 0 where
    pub parent : Option ℕ
    pub target : Target
    pub stands : Stands items v (Initial target) parent
    pub escapes : Escapes parent target

  -- a choice that leads to itself, perhaps through others
  pub record IsOnRing (choice : ℕ) : Type 0 where
    pub branch : ℕ
    pub leads : Branches choice (To branch)
    pub back : Through branch choice
