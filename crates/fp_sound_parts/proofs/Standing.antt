-- Which vertex of a machine each state and choice among its items is.
use Rattle.std.proofs.Common.{◌≡◌, ℕ, ◌<◌, List, Option, Some, None, slice_get}
use Rattle.std.specs.Option.{option_and_then}
use Rattle.fp_tables.specs.Machines.{node_at}
use Rattle.fp_tables.specs.declared.machine.Node.{Node}
use Rattle.fp_tables.specs.declared.machine.Node.TheVariants as node
use Rattle.fp_tables.specs.declared.machine.On.{On}
use Rattle.fp_tables.specs.declared.machine.Step.{Step}
use Rattle.fp_tables.specs.declared.machine.Vertex.{Vertex}
use Rattle.fp_machine_rules.specs.declared.item.Target.{Target}
use Rattle.fp_machine_rules.specs.declared.item.Target.TheVariants.{Stays, Undefined, To}
use Rattle.fp_machine_rules.specs.declared.item.Form.TheVariants.{Choice}
use Rattle.fp_machine_rules.specs.declared.item.Item.{Item}
use Rattle.fp_machine_rules.specs.Forms.{Stands, StandsIn, IsState, IsVertex}
use Rattle.fp_machine_rules.specs.Through.{Branches}

-- the vertex that a step goes to
abbrev pub to_number : (ℕ → ℕ) → Target → Option ℕ
to_number number Stays = None
to_number number Undefined = None
to_number number (To v) = Some (number v)

pub record IsChoiceNode (number : ℕ → ℕ) (o : Option Node) (first second : Target) : Type 0 where
  pub guard : ℕ
  pub met : Step
  pub unmet : Step
  pub is : o ≡ Some (node.Choice guard met unmet)
  pub to_met : met.target ≡ to_number number first
  pub to_unmet : unmet.target ≡ to_number number second

pub record IsStateNode (o : Option Node) : Type 0 where
  pub initial : Option Step
  pub entry : List ℕ
  pub exit : List ℕ
  pub on : List On
  pub is : o ≡ Some (node.State initial entry exit on)

-- a vertex in a state
pub record HasParent (items : List Item) (vs : List Vertex) (number : ℕ → ℕ) (v p : ℕ) : Type 0 where
  pub state : IsState items p
  pub rises : number p < number v
  pub parent : option_and_then (λ (x : Vertex). x.parent) (slice_get vs (number v)) ≡ Some (number p)

pub record Corresponds (items : List Item) (vs : List Vertex) (number : ℕ → ℕ) : Type 0 where
  pub choice : (v name : ℕ) (first second : Target) (p : Option ℕ) → Stands items v (Choice name first second) p → IsChoiceNode number (node_at vs (number v)) first second
  pub state : (v : ℕ) → IsState items v → IsStateNode (node_at vs (number v))
  pub leads : (v w : ℕ) → Branches items v (To w) → IsVertex items w
  pub back : (n : ℕ) (x : Vertex) → slice_get vs n ≡ Some x → (v : ℕ) × IsVertex items v × (number v ≡ n)
  pub same : (v w : ℕ) → IsVertex items v → IsVertex items w → number v ≡ number w → v ≡ w
  pub parent : (v p : ℕ) → IsVertex items v → StandsIn items v (Some p) → HasParent items vs number v p
