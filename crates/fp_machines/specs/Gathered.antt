-- What stands directly in each state, and in the machine itself, gathered by the states.
use Rattle.std.specs.Prelude.{◌≡◌, ◌<◌, ℕ, List, [], ◌∷◌, ◌++◌, filter, length, slice_get, unwrap_or, Option, None, Some}
use Rattle.std.specs.List.{filter_map}
use Rattle.std.specs.Option.{option_to_list}
use Rattle.fp_tree.specs.declared.machine.BehaviorElement.{BehaviorElement}
use Rattle.fp_tree.specs.declared.machine.ElementForm.{ElementForm}
use Rattle.fp_tree.specs.declared.machine.ElementForm.TheVariants as element
use Rattle.fp_tables.specs.declared.machine.Node.{Node}
use Rattle.fp_tables.specs.declared.machine.Node.TheVariants as node
use Rattle.fp_tables.specs.declared.machine.Vertex.{Vertex}
use Rattle.fp_machine_rules.specs.Members.{same_place}
use Rattle.fp_machines.specs.declared.gathering.Parts.{Parts}
use Rattle.fp_machines.specs.Made.{actions_of, choice_node, entry_in, exit_in, first, initial_in, on_in, step_of, vertex_with}

abbrev pub no_parts : Parts
no_parts = record { initial = None; entry = None; exit = None; on = [] }

-- what is there already stays
abbrev pub or_else : {A : Type 0} → Option A → A → Option A
or_else None x = Some x
or_else (Some had) x = Some had

-- the state that they stand in
abbrev pub node_with : Parts → Node
node_with ps = node.State ps.initial (unwrap_or ps.entry []) (unwrap_or ps.exit []) ps.on

-- over all elements of a machine
module _ (es : List BehaviorElement) where
  -- what some of them give to a state, or to the machine
  abbrev pub parts_in : Option ℕ → List BehaviorElement → Parts
  parts_in p members = record {
    initial = first (filter_map (λ (e : BehaviorElement). initial_in es p e.form) members);
    entry = first (filter_map (λ (e : BehaviorElement). entry_in es e.form) members);
    exit = first (filter_map (λ (e : BehaviorElement). exit_in es e.form) members);
    on = filter_map (λ (e : BehaviorElement). on_in es p e.form) members;
  }

  -- of those before a position
  abbrev pub parts : List BehaviorElement → Option ℕ → Parts
  parts before p = parts_in p (filter (λ (e : BehaviorElement). same_place p e.parent) before)

  -- with one member more
  abbrev pub with_member : Option ℕ → Parts → ElementForm → Parts
  with_member p ps (element.Initial g) = record ps { initial = or_else ps.initial (step_of es p g) }
  with_member p ps (element.Entry d) = record ps { entry = or_else ps.entry (actions_of es d) }
  with_member p ps (element.Exit d) = record ps { exit = or_else ps.exit (actions_of es d) }
  with_member p ps (element.On o) = record ps { on = ps.on ++ option_to_list (on_in es p (element.On o)) }
  with_member p ps _ = ps

  -- for so many positions, and for the machine itself
  pub record AreGathered (before : List BehaviorElement) (n : ℕ) (table : List Parts) (top : Parts) : Type 0 where
    pub each : length table ≡ n
    pub exact : (v : ℕ) → v < n → slice_get table v ≡ Some (parts before (Some v))
    pub own : top ≡ parts before None

  -- ---- states and choices by what was gathered

  abbrev pub vertex_by : Parts → Option ℕ → ElementForm → Option Vertex
  vertex_by ps p (element.State n) = Some (vertex_with es n p (node_with ps))
  vertex_by ps p (element.Choice c) = Some (vertex_with es c.name p (choice_node es p c))
  vertex_by ps p _ = None

  abbrev pub vertices_by : List BehaviorElement → List Parts → List Vertex
  vertices_by [] table = []
  vertices_by (e ∷ more) [] = []
  vertices_by (e ∷ more) (ps ∷ table) = option_to_list (vertex_by ps e.parent e.form) ++ vertices_by more table
