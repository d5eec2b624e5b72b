-- The machine of a model that the elements of a state machine come to. FPP Language Specification, "State Machine Definitions" and "State
-- Machine Behavior Elements".
-- States and choices, signals, actions and guards are named by their positions among those of their kind. What a name means nothing by is left
-- out; in a machine that breaks no rule there is no such name.
use Rattle.std.specs.Prelude.{ℕ, ◌+◌, Bool, true, false, List, [], ◌∷◌, ◌++◌, filter, take, length, slice_get, unwrap_or, option_map, option_and_then, Option, Some, None}
use Rattle.std.specs.List.{filter_map}
use Rattle.std.specs.Option.{option_to_list}
use Rattle.fp_tree.specs.declared.name.Name.{Name}
use Rattle.fp_tree.specs.declared.name.Qual.{Qual}
use Rattle.fp_tree.specs.declared.machine.ActionUse.{ActionUse}
use Rattle.fp_tree.specs.declared.machine.Behavior.{Behavior}
use Rattle.fp_tree.specs.declared.machine.BehaviorElement.{BehaviorElement}
use Rattle.fp_tree.specs.declared.machine.Choice.{Choice}
use Rattle.fp_tree.specs.declared.machine.Do.{Do}
use Rattle.fp_tree.specs.declared.machine.ElementForm.{ElementForm}
use Rattle.fp_tree.specs.declared.machine.ElementForm.TheVariants as element
use Rattle.fp_tree.specs.declared.machine.Goto.{Goto}
use Rattle.fp_tree.specs.declared.machine.OnSignal.{OnSignal}
use Rattle.fp_tree.specs.declared.machine.Transition.{Transition}
use Rattle.fp_tree.specs.declared.machine.Transition.TheVariants as way
use Rattle.fp_tree.specs.declared.machine.TypedName.{TypedName}
use Rattle.fp_tables.specs.declared.kind.Kind.{Kind}
use Rattle.fp_tables.specs.declared.machine.Machine.{Machine}
use Rattle.fp_tables.specs.declared.machine.Named.{Named}
use Rattle.fp_tables.specs.declared.machine.Node.{Node}
use Rattle.fp_tables.specs.declared.machine.Node.TheVariants as node
use Rattle.fp_tables.specs.declared.machine.On.{On}
use Rattle.fp_tables.specs.declared.machine.Step.{Step}
use Rattle.fp_tables.specs.declared.machine.Vertex.{Vertex}
use Rattle.fp_machine_rules.specs.Members.{same_place}
use Rattle.fp_machines.specs.Outline.{outline}
use Rattle.fp_machines.specs.Scopes.{action_named, guard_named, signal_named, vertex_meant}

-- ---- kinds of elements

abbrev pub is_vertex : ElementForm → Bool
is_vertex (element.State n) = true
is_vertex (element.Choice c) = true
is_vertex _ = false

abbrev pub is_signal : ElementForm → Bool
is_signal (element.Signal t) = true
is_signal _ = false

abbrev pub is_action : ElementForm → Bool
is_action (element.Action t) = true
is_action _ = false

abbrev pub is_guard : ElementForm → Bool
is_guard (element.Guard t) = true
is_guard _ = false

-- how many of a kind stand before a position
abbrev pub number_among : (ElementForm → Bool) → List BehaviorElement → ℕ → ℕ
number_among test es at = length (filter (λ (e : BehaviorElement). test e.form) (take at es))

-- ---- what is declared

abbrev pub signal_in : ElementForm → Option TypedName
signal_in (element.Signal t) = Some t
signal_in _ = None

abbrev pub action_in : ElementForm → Option TypedName
action_in (element.Action t) = Some t
action_in _ = None

abbrev pub guard_in : ElementForm → Option TypedName
guard_in (element.Guard t) = Some t
guard_in _ = None

-- the kind of the value that the element at a position declares, if it declares one
abbrev pub kind_at : List (Option Kind) → ℕ → Option Kind
kind_at kinds at = option_and_then (λ (o : Option Kind). o) (slice_get kinds at)

abbrev pub named : Option Kind → TypedName → Named
named k t = record { name = t.name.text; kind = k }

-- those that a part gives, from a position on
abbrev pub declared_from : (ElementForm → Option TypedName) → List (Option Kind) → ℕ → List BehaviorElement → List Named
declared_from part kinds at [] = []
declared_from part kinds at (e ∷ more) = option_to_list (option_map (named (kind_at kinds at)) (part e.form)) ++ declared_from part kinds (at + 1) more

-- ---- over the elements

-- the first of some, if there is one
abbrev pub first : {A : Type 0} → List A → Option A
first xs = slice_get xs 0

module _ (es : List BehaviorElement) where
  abbrev pub vertex_number : ℕ → ℕ
  vertex_number at = number_among is_vertex es at

  abbrev pub signal_number : ℕ → ℕ
  signal_number at = number_among is_signal es at

  abbrev pub action_number : ℕ → ℕ
  action_number at = number_among is_action es at

  abbrev pub guard_number : ℕ → ℕ
  guard_number at = number_among is_guard es at

  -- ---- steps

  abbrev pub action_meant : ActionUse → Option ℕ
  action_meant a = option_map action_number (action_named es (outline es) a.name)

  abbrev pub guard_meant : Name → Option ℕ
  guard_meant g = option_map guard_number (guard_named es (outline es) g)

  abbrev pub signal_meant : Name → Option ℕ
  signal_meant s = option_map signal_number (signal_named es (outline es) s)

  abbrev pub actions_of : Do → List ℕ
  actions_of d = filter_map action_meant d.actions

  abbrev pub actions_if : Option Do → List ℕ
  actions_if None = []
  actions_if (Some d) = actions_of d

  -- what is entered from a state, or from the machine
  abbrev pub target_meant : Option ℕ → Qual → Option ℕ
  target_meant p q = option_map vertex_number (vertex_meant es (outline es) p q.names)

  abbrev pub step_of : Option ℕ → Goto → Step
  step_of p g = record { actions = actions_if g.actions; target = target_meant p g.target }

  abbrev pub way_of : Option ℕ → Transition → Step
  way_of p (way.Goto g) = step_of p g
  way_of p (way.Do d) = record { actions = actions_of d; target = None }

  abbrev pub on_with : Option ℕ → OnSignal → ℕ → On
  on_with p o s = record { signal = s; guard = option_and_then guard_meant o.guard; step = way_of p o.transition }

  -- ---- what stands directly in a state, or in the machine itself

  abbrev pub members_of : Option ℕ → List BehaviorElement
  members_of p = filter (λ (e : BehaviorElement). same_place p e.parent) es

  -- what its members have by their forms
  abbrev pub parts_of : {A : Type 0} → (ElementForm → Option A) → Option ℕ → List A
  parts_of part p = filter_map (λ (e : BehaviorElement). part e.form) (members_of p)

  abbrev pub initial_in : Option ℕ → ElementForm → Option Step
  initial_in p (element.Initial g) = Some (step_of p g)
  initial_in p _ = None

  abbrev pub entry_in : ElementForm → Option (List ℕ)
  entry_in (element.Entry d) = Some (actions_of d)
  entry_in _ = None

  abbrev pub exit_in : ElementForm → Option (List ℕ)
  exit_in (element.Exit d) = Some (actions_of d)
  exit_in _ = None

  abbrev pub on_in : Option ℕ → ElementForm → Option On
  on_in p (element.On o) = option_map (on_with p o) (signal_meant o.signal)
  on_in p _ = None

  -- the first of each that may stand there once alone
  abbrev pub initial_of : Option ℕ → Option Step
  initial_of p = first (parts_of (initial_in p) p)

  abbrev pub entry_of : Option ℕ → List ℕ
  entry_of p = unwrap_or (first (parts_of entry_in p)) []

  abbrev pub exit_of : Option ℕ → List ℕ
  exit_of p = unwrap_or (first (parts_of exit_in p)) []

  abbrev pub transitions_of : Option ℕ → List On
  transitions_of p = parts_of (on_in p) p

  -- ---- states and choices

  -- the state at a position
  abbrev pub state_node : ℕ → Node
  state_node at = node.State (initial_of (Some at)) (entry_of (Some at)) (exit_of (Some at)) (transitions_of (Some at))

  -- a choice in a state, or in the machine itself
  abbrev pub choice_node : Option ℕ → Choice → Node
  choice_node p c = node.Choice (unwrap_or (guard_meant c.guard) 0) (step_of p c.met) (step_of p c.unmet)

  abbrev pub vertex_with : Name → Option ℕ → Node → Vertex
  vertex_with name p n = record { name = name.text; parent = option_map vertex_number p; node = n }

  abbrev pub vertex_in : ℕ → Option ℕ → ElementForm → Option Vertex
  vertex_in at p (element.State n) = Some (vertex_with n p (state_node at))
  vertex_in at p (element.Choice c) = Some (vertex_with c.name p (choice_node p c))
  vertex_in at p _ = None

  -- in source order, which is preorder, from a position on
  abbrev pub vertices_from : ℕ → List BehaviorElement → List Vertex
  vertices_from at [] = []
  vertices_from at (e ∷ more) = option_to_list (vertex_in at e.parent e.form) ++ vertices_from (at + 1) more

  -- ---- the machine of a name, with the kinds of what its elements declare

  abbrev pub machine_with : List ℕ → List (Option Kind) → Machine
  machine_with name kinds = record {
    name = name;
    external = false;
    signals = declared_from signal_in kinds 0 es;
    actions = declared_from action_in kinds 0 es;
    guards = declared_from guard_in kinds 0 es;
    initial = initial_of None;
    vertices = vertices_from 0 es;
  }

-- one whose body is written elsewhere
abbrev pub external_machine : List ℕ → Machine
external_machine name = record { name = name; external = true; signals = []; actions = []; guards = []; initial = None; vertices = [] }

abbrev pub machine_of : List ℕ → Option Behavior → List (Option Kind) → Machine
machine_of name None kinds = external_machine name
machine_of name (Some b) kinds = machine_with b.elements name kinds
