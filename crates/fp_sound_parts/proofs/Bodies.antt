-- The body of a machine whose elements break no rule is sound.
use Rattle.std.proofs.Common.{◌≡◌, ℕ, ◌+◌, ◌&&◌, Bool, true, List, map, slice_get, Option, Some, None, is_some, refl, ap, ◌∙◌, arith}
use Rattle.std.specs.List.{list_all}
use Rattle.fp_base.specs.declared.place.Place.{Place}
use Rattle.fp_base.proofs.Bools.{join}
use Rattle.fp_base.proofs.Passing.{all_items}
use Rattle.fp_tree.specs.declared.machine.BehaviorElement.{BehaviorElement}
use Rattle.fp_tables.specs.Lists.{all_from, if_some}
use Rattle.fp_tables.specs.Machines as machines
use Rattle.fp_tables.specs.Names.{numbers_differ}
use Rattle.fp_tables.specs.declared.kind.Kind.{Kind}
use Rattle.fp_tables.specs.declared.kind.TypeDef.{TypeDef}
use Rattle.fp_tables.specs.declared.machine.Machine.{Machine}
use Rattle.fp_tables.specs.declared.machine.Node.{Node}
use Rattle.fp_tables.specs.declared.machine.Node.TheVariants as node
use Rattle.fp_tables.specs.declared.machine.On.{On}
use Rattle.fp_tables.specs.declared.machine.Step.{Step}
use Rattle.fp_tables.specs.declared.machine.Vertex.{Vertex}
use Rattle.fp_machine_rules.specs.Forms.{IsState}
use Rattle.fp_machines.specs.Layout.{laid}
use Rattle.fp_machines.specs.Made.{entry_of, exit_of, initial_of, machine_with, state_node, transitions_of, vertex_number}
use Rattle.fp_machines.specs.Numbers.{type_numbers}
use Rattle.fp_sound_parts.specs.Sound.{HasSoundBody, IsUnbrokenBehavior}
use Rattle.fp_sound_parts.proofs.Corresponding.{corresponds, items, vertices}
use Rattle.fp_sound_parts.proofs.Counts.{begins_where_held, begins_where_one, held_fits, surely_equal}
use Rattle.fp_sound_parts.proofs.Nodes.{VertexIs, of_state, of_choice, each_vertex}
use Rattle.fp_sound_parts.proofs.Rings.{no_ring}
use Rattle.fp_sound_parts.proofs.Sentences.{Says, says}
use Rattle.fp_sound_parts.proofs.Signals.{signals_apart}
use Rattle.fp_sound_parts.proofs.Staying.{initial_at, stays}
use Rattle.fp_sound_parts.proofs.Tests.{all_from_each}
use Rattle.fp_sound_parts.proofs.Values as values

-- ---- of a choice nothing is asked

choice_begins : (vs : List Vertex) (n : ℕ) (x : Vertex) (guard : ℕ) (first second : Step) → x.node ≡ node.Choice guard first second → machines.has_its_initial vs n x ≡ true
choice_begins vs n x guard first second is = rw is refl

choice_stays : (vs : List Vertex) (n : ℕ) (x : Vertex) (guard : ℕ) (first second : Step) → x.node ≡ node.Choice guard first second → machines.stays_inside vs n x ≡ true
choice_stays vs n x guard first second is = rw is refl

choice_differs : (x : Vertex) (guard : ℕ) (first second : Step) → x.node ≡ node.Choice guard first second → machines.signals_differ x ≡ true
choice_differs x guard first second is = rw is refl

choice_given : (types : List TypeDef) (m : Machine) (x : Vertex) (guard : ℕ) (first second : Step) → x.node ≡ node.Choice guard first second
    → machines.vertex_is_given types m x ≡ true
choice_given types m x guard first second is = rw is refl

-- ---- what is asked of a state

state_given : (types : List TypeDef) (m : Machine) (x : Vertex) (initial : Option Step) (entry exit : List ℕ) (on : List On) → x.node ≡ node.State initial entry exit on
    → if_some (machines.step_is_given types m None) initial ≡ true → machines.actions_are_given types m None entry ≡ true → machines.actions_are_given types m None exit ≡ true
    → list_all (machines.on_is_given types m) on ≡ true → machines.vertex_is_given types m x ≡ true
state_given types m x initial entry exit on is a b c d =
    rw is
    (join (if_some (machines.step_is_given types m None) initial && machines.actions_are_given types m None entry && machines.actions_are_given types m None exit)
    (list_all (machines.on_is_given types m) on)
    (join (if_some (machines.step_is_given types m None) initial && machines.actions_are_given types m None entry) (machines.actions_are_given types m None exit)
    (join (if_some (machines.step_is_given types m None) initial) (machines.actions_are_given types m None entry) a b) c) d)

if_each : {A : Type 0} (test : A → Bool) (o : Option A) → ((x : A) → o ≡ Some x → test x ≡ true) → if_some test o ≡ true
if_each test None h = refl
if_each test (Some x) h = h x refl

module _ (types : List TypeDef) (place : Place) (es : List BehaviorElement) (kinds : List (Option Kind)) (name : List ℕ) (b : IsUnbrokenBehavior types place es kinds) where
  abbrev said : Says (laid place es (type_numbers types kinds))
  said = says (laid place es (type_numbers types kinds)) b.unbroken

  -- at each vertex, where it holds at states and at choices
  by_nodes : (test : ℕ → Vertex → Bool) → ((u : ℕ) (x : Vertex) → IsState (items es) u → x.node ≡ state_node es u → test (vertex_number es u) x ≡ true)
      → ((n guard : ℕ) (first second : Step) (x : Vertex) → x.node ≡ node.Choice guard first second → test n x ≡ true)
      → (k : ℕ) (x : Vertex) → slice_get (vertices es) k ≡ Some x → test k x ≡ true
  by_nodes test states choices k x h = go (each_vertex es k x h)
    where
      go : VertexIs es k x → test k x ≡ true
      go (of_state u s same is) = ap (λ (n : ℕ). test n x) same ∙ states u x s is
      go (of_choice guard first second is) = choices k guard first second x is

  at_place : (test : ℕ → Vertex → Bool) → ((k : ℕ) (x : Vertex) → slice_get (vertices es) k ≡ Some x → test k x ≡ true) → all_from test 0 (vertices es) ≡ true
  at_place test each =
      all_from_each test 0 (vertices es) (λ k x h. let z : 0 + k ≡ k = omega arith in ap (λ (n : ℕ). test n x) z ∙ each k x h)

  begins : is_some (initial_of es None) ≡ true
  begins = begins_where_one es None (surely_equal _ 1 said.machine_counts)

  states_begin : all_from (machines.has_its_initial (vertices es)) 0 (vertices es) ≡ true
  states_begin =
      at_place (machines.has_its_initial (vertices es))
      (by_nodes (machines.has_its_initial (vertices es))
      (λ u x s is. held_fits (vertices es) (vertex_number es u) x (initial_of es (Some u)) (entry_of es (Some u)) (exit_of es (Some u)) (transitions_of es (Some u)) is
      (begins_where_held es b.in_order u s (said.state_counts u)))
      (λ n guard first second x is. choice_begins (vertices es) n x guard first second is))

  initials_stay : all_from (machines.stays_inside (vertices es)) 0 (vertices es) ≡ true
  initials_stay =
      at_place (machines.stays_inside (vertices es))
      (by_nodes (machines.stays_inside (vertices es))
      (λ u x s is. stays es b.in_order said.stays u x (initial_of es (Some u)) refl (ap machines.initial_of is))
      (λ n guard first second x is. choice_stays (vertices es) n x guard first second is))

  signals_differ : list_all machines.signals_differ (vertices es) ≡ true
  signals_differ =
      all_items machines.signals_differ (vertices es)
      (by_nodes (λ (_ : ℕ) (x : Vertex). machines.signals_differ x)
      (λ u x s is. ap (λ (n : Node). numbers_differ (map (λ (o : On). o.signal) (machines.transitions_of n))) is ∙ signals_apart es said.signals (Some u))
      (λ n guard first second x is. choice_differs x guard first second is))

  initial_given : (p : Option ℕ) → if_some (machines.step_is_given types (machine_with es name kinds) None) (initial_of es p) ≡ true
  initial_given p =
      if_each (machines.step_is_given types (machine_with es name kinds) None) (initial_of es p)
      (λ s e. values.initial_fits es types kinds name b.in_order b.kinds_each said.uses p s (initial_at es p s e))

  vertices_given : list_all (machines.vertex_is_given types (machine_with es name kinds)) (vertices es) ≡ true
  vertices_given =
      all_items (machines.vertex_is_given types (machine_with es name kinds)) (vertices es)
      (by_nodes (λ (_ : ℕ) (x : Vertex). machines.vertex_is_given types (machine_with es name kinds) x)
      (λ u x s is. state_given types (machine_with es name kinds) x (initial_of es (Some u)) (entry_of es (Some u)) (exit_of es (Some u)) (transitions_of es (Some u)) is
      (initial_given (Some u)) (values.entry_fits es types kinds name b.in_order b.kinds_each said.uses (Some u))
      (values.exit_fits es types kinds name b.in_order b.kinds_each said.uses (Some u))
      (values.transitions_fit es types kinds name b.in_order b.kinds_each said.uses (Some u)))
      (λ n guard first second x is. choice_given types (machine_with es name kinds) x guard first second is))

  pub body_is_sound : HasSoundBody types (machine_with es name kinds)
  body_is_sound = record {
    begins = begins;
    states_begin = states_begin;
    initials_stay = initials_stay;
    signals_differ = signals_differ;
    no_ring = no_ring (items es) (vertices es) (vertex_number es) (corresponds es b.in_order) said.no_ring;
    values_given =
        join (if_some (machines.step_is_given types (machine_with es name kinds) None) (initial_of es None))
        (list_all (machines.vertex_is_given types (machine_with es name kinds)) (vertices es)) (initial_given None) vertices_given;
  }
