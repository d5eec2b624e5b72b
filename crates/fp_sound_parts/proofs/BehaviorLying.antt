-- Each position in a machine that breaks no rule lies in its list.
use Rattle.std.proofs.Common.{◌≡◌, ℕ, ◌<◌, ◌&&◌, Bool, true, List, [], ◌∷◌, length, slice_get, Option, Some, None, is_some, refl, sym, ap, subst, ◌∙◌}
use Rattle.std.specs.Prelude.{nat_lt, option_and_then, option_map, unwrap_or}
use Rattle.std.specs.List.{cons_option, filter_map, list_all}
use Rattle.fp_base.proofs.Bools.{join}
use Rattle.fp_base.proofs.Numbers.{below_told}
use Rattle.fp_base.proofs.Options.{mapped_some, same_some, some_of}
use Rattle.fp_base.proofs.Passing.{all_items}
use Rattle.fp_tree.specs.declared.name.Name.{Name}
use Rattle.fp_tree.specs.declared.name.Qual.{Qual}
use Rattle.fp_tree.specs.declared.machine.ActionUse.{ActionUse}
use Rattle.fp_tree.specs.declared.machine.BehaviorElement.{BehaviorElement}
use Rattle.fp_tree.specs.declared.machine.Choice.{Choice}
use Rattle.fp_tree.specs.declared.machine.Do.{Do}
use Rattle.fp_tree.specs.declared.machine.ElementForm.{ElementForm}
use Rattle.fp_tree.specs.declared.machine.ElementForm.TheVariants as element
use Rattle.fp_tree.specs.declared.machine.Goto.{Goto}
use Rattle.fp_tree.specs.declared.machine.OnSignal.{OnSignal}
use Rattle.fp_tree.specs.declared.machine.Transition.{Transition}
use Rattle.fp_tree.specs.declared.machine.Transition.TheVariants as way
use Rattle.fp_tree.specs.declared.machine.TypedName.{TypedName}
use Rattle.fp_tables.specs.Lists.{if_some}
use Rattle.fp_tables.specs.Positions.{kind_lies, machine_lies, named_lies, node_lies, numbers_lie, on_lies, step_lies, vertex_lies}
use Rattle.fp_tables.specs.declared.kind.Kind.{Kind}
use Rattle.fp_tables.specs.declared.machine.Machine.{Machine}
use Rattle.fp_tables.specs.declared.machine.On.{On}
use Rattle.fp_tables.specs.declared.machine.Step.{Step}
use Rattle.fp_tables.specs.declared.machine.Vertex.{Vertex}
use Rattle.fp_machine_rules.specs.Members.{same_place}
use Rattle.fp_machines.specs.Outline.{outline}
use Rattle.fp_machines.specs.Scopes.{action_named, guard_named, signal_named, vertex_meant}
use Rattle.fp_machines.specs.Made.{action_in, action_meant, action_number, actions_if, actions_of, choice_node, declared_from, entry_in, entry_of, exit_in, exit_of, first, guard_in, guard_meant, guard_number, initial_of, is_action, is_guard, is_signal, kind_at, machine_with, number_among, on_in, on_with, parts_of, signal_in, signal_meant, signal_number, state_node, step_of, target_meant, transitions_of, vertex_in, vertex_number, vertices_from, way_of}
use Rattle.fp_machines.specs.Ordered.{AreInOrder}
use Rattle.fp_sound_parts.proofs.Around.{behind, state_at, state_passes, vertex_lies_below, vertex_parent}
use Rattle.fp_sound_parts.proofs.Declaring.{action_same, guard_same, signal_same}
use Rattle.fp_sound_parts.proofs.Known.{KnownGuard, KnownIn}
use Rattle.fp_sound_parts.proofs.Leading.{initial_there}
use Rattle.fp_sound_parts.proofs.Meant.{IsDeclaredAt, action_is, guard_is, signal_is, vertex_meant_is}
use Rattle.fp_sound_parts.proofs.Parts.{part_there}
use Rattle.fp_sound_parts.proofs.Vertices.{declared_back, declared_length, number_below, vertex_back}

-- ---- numbers

mapped_lie : {A : Type 0} (f : A → Option ℕ) (size : ℕ) → ((a : A) (n : ℕ) → f a ≡ Some n → nat_lt n size ≡ true) → (xs : List A) → numbers_lie size (filter_map f xs) ≡ true
mapped_lie f size each [] = refl
mapped_lie f size each (x ∷ xs) = go (f x) refl (mapped_lie f size each xs)
  where
    go : (o : Option ℕ) → f x ≡ o → numbers_lie size (filter_map f xs) ≡ true → numbers_lie size (cons_option o (filter_map f xs)) ≡ true
    go None e rest = rest
    go (Some n) e rest = join (nat_lt n size) (numbers_lie size (filter_map f xs)) (each x n e) rest

-- what holds of what may be there
if_there : {A : Type 0} (test : A → Bool) (o : Option A) → ((x : A) → o ≡ Some x → test x ≡ true) → if_some test o ≡ true
if_there test None h = refl
if_there test (Some x) h = h x refl

module _ (es : List BehaviorElement) (kinds : List (Option Kind)) where
  -- the number of what is declared lies
  number_lies : (part : ElementForm → Option TypedName) (test : ElementForm → Bool) → ((f : ElementForm) → is_some (part f) ≡ test f) → (v : ℕ) → IsDeclaredAt es part v
      → nat_lt (number_among test es v) (length (declared_from part kinds 0 es)) ≡ true
  number_lies part test same v d =
      below_told (number_among test es v) (length (declared_from part kinds 0 es))
      (subst (λ (n : ℕ). number_among test es v < n) (sym (declared_length part test same kinds es))
      (number_below test es v d.element d.here (sym (same d.element.form) ∙ ap is_some d.has)))

  action_lies : (a : ActionUse) (n : ℕ) → action_meant es a ≡ Some n → nat_lt n (length (declared_from action_in kinds 0 es)) ≡ true
  action_lies a n h =
      let t = mapped_some (action_number es) (action_named es (outline es) a.name) n h in
      ap (λ (k : ℕ). nat_lt k (length (declared_from action_in kinds 0 es))) (sym t.2) ∙ number_lies action_in is_action action_same t.0 (action_is es a.name t.0 t.1)

  guard_lies : (g : Name) (n : ℕ) → guard_meant es g ≡ Some n → nat_lt n (length (declared_from guard_in kinds 0 es)) ≡ true
  guard_lies g n h =
      let t = mapped_some (guard_number es) (guard_named es (outline es) g) n h in
      ap (λ (k : ℕ). nat_lt k (length (declared_from guard_in kinds 0 es))) (sym t.2) ∙ number_lies guard_in is_guard guard_same t.0 (guard_is es g t.0 t.1)

  signal_lies : (s : Name) (n : ℕ) → signal_meant es s ≡ Some n → nat_lt n (length (declared_from signal_in kinds 0 es)) ≡ true
  signal_lies s n h =
      let t = mapped_some (signal_number es) (signal_named es (outline es) s) n h in
      ap (λ (k : ℕ). nat_lt k (length (declared_from signal_in kinds 0 es))) (sym t.2) ∙ number_lies signal_in is_signal signal_same t.0 (signal_is es s t.0 t.1)

  target_lies : (p : Option ℕ) (q : Qual) (n : ℕ) → target_meant es p q ≡ Some n → nat_lt n (length (vertices_from es 0 es)) ≡ true
  target_lies p q n h =
      let t = mapped_some (vertex_number es) (vertex_meant es (outline es) p q.names) n h in
      let v = vertex_meant_is es p q.names t.0 t.1 in
      ap (λ (k : ℕ). nat_lt k (length (vertices_from es 0 es))) (sym t.2)
      ∙ below_told (vertex_number es t.0) (length (vertices_from es 0 es)) (vertex_lies_below es t.0 v.element v.here v.is)

-- ---- steps

module _ (es : List BehaviorElement) (name : List ℕ) (kinds : List (Option Kind)) where
  abbrev m : Machine
  m = machine_with es name kinds

  actions_lie : (d : Do) → numbers_lie (length m.actions) (actions_of es d) ≡ true
  actions_lie d = mapped_lie (action_meant es) (length m.actions) (action_lies es kinds) d.actions

  if_lie : (o : Option Do) → numbers_lie (length m.actions) (actions_if es o) ≡ true
  if_lie None = refl
  if_lie (Some d) = actions_lie d

  goto_lies : (p : Option ℕ) (g : Goto) → step_lies m (step_of es p g) ≡ true
  goto_lies p g =
      join (numbers_lie (length m.actions) (actions_if es g.actions)) (if_some (λ v. nat_lt v (length m.vertices)) (target_meant es p g.target)) (if_lie g.actions)
      (if_there (λ v. nat_lt v (length m.vertices)) (target_meant es p g.target) (target_lies es kinds p g.target))

  way_lies : (p : Option ℕ) (t : Transition) → step_lies m (way_of es p t) ≡ true
  way_lies p (way.Goto g) = goto_lies p g
  way_lies p (way.Do d) = join (numbers_lie (length m.actions) (actions_of es d)) true (actions_lie d) refl

  initial_lies : (p : Option ℕ) → if_some (step_lies m) (initial_of es p) ≡ true
  initial_lies p =
      if_there (step_lies m) (initial_of es p) (λ s h. let i = initial_there es p s h in sym (ap (λ (s : Step). step_lies m s) i.is) ∙ goto_lies p i.goto)

  -- ---- entries and exits

  entry_form : (f : ElementForm) (ns : List ℕ) → entry_in es f ≡ Some ns → numbers_lie (length m.actions) ns ≡ true
  entry_form (element.Entry d) ns e = sym (ap (λ (ks : List ℕ). numbers_lie (length m.actions) ks) (same_some e)) ∙ actions_lie d
  entry_form (element.State n) ns e = absurd cc
  entry_form (element.Choice c) ns e = absurd cc
  entry_form (element.Initial g) ns e = absurd cc
  entry_form (element.Signal t) ns e = absurd cc
  entry_form (element.Action t) ns e = absurd cc
  entry_form (element.Guard t) ns e = absurd cc
  entry_form (element.On o) ns e = absurd cc
  entry_form (element.Exit d) ns e = absurd cc

  exit_form : (f : ElementForm) (ns : List ℕ) → exit_in es f ≡ Some ns → numbers_lie (length m.actions) ns ≡ true
  exit_form (element.Exit d) ns e = sym (ap (λ (ks : List ℕ). numbers_lie (length m.actions) ks) (same_some e)) ∙ actions_lie d
  exit_form (element.State n) ns e = absurd cc
  exit_form (element.Choice c) ns e = absurd cc
  exit_form (element.Initial g) ns e = absurd cc
  exit_form (element.Signal t) ns e = absurd cc
  exit_form (element.Action t) ns e = absurd cc
  exit_form (element.Guard t) ns e = absurd cc
  exit_form (element.On o) ns e = absurd cc
  exit_form (element.Entry d) ns e = absurd cc

  firsts_lie : (part : ElementForm → Option (List ℕ)) → ((f : ElementForm) (ns : List ℕ) → part f ≡ Some ns → numbers_lie (length m.actions) ns ≡ true) → (p : Option ℕ)
      → numbers_lie (length m.actions) (unwrap_or (first (parts_of es part p)) []) ≡ true
  firsts_lie part each p = go (first (parts_of es part p)) refl
    where
      go : (o : Option (List ℕ)) → first (parts_of es part p) ≡ o → numbers_lie (length m.actions) (unwrap_or o []) ≡ true
      go None e = refl
      go (Some ns) e =
          let t = part_there (λ (e : BehaviorElement). same_place p e.parent) (λ (e : BehaviorElement). part e.form) es 0 ns e in
          each t.element.form ns t.gives

  -- ---- transitions

  guards_lie : (o : Option Name) → if_some (λ g. nat_lt g (length m.guards)) (option_and_then (guard_meant es) o) ≡ true
  guards_lie None = refl
  guards_lie (Some g) = if_there (λ g. nat_lt g (length m.guards)) (guard_meant es g) (guard_lies es kinds g)

  with_lies : (p : Option ℕ) (o : OnSignal) (s : ℕ) → signal_meant es o.signal ≡ Some s → on_lies m (on_with es p o s) ≡ true
  with_lies p o s h =
      join (nat_lt s (length m.signals) && if_some (λ g. nat_lt g (length m.guards)) (option_and_then (guard_meant es) o.guard)) (step_lies m (way_of es p o.transition))
      (join (nat_lt s (length m.signals)) (if_some (λ g. nat_lt g (length m.guards)) (option_and_then (guard_meant es) o.guard)) (signal_lies es kinds o.signal s h) (guards_lie o.guard))
      (way_lies p o.transition)

  on_form : (p : Option ℕ) (f : ElementForm) (x : On) → on_in es p f ≡ Some x → on_lies m x ≡ true
  on_form p (element.On o) x e =
      let t = mapped_some (on_with es p o) (signal_meant es o.signal) x e in
      sym (ap (λ (x : On). on_lies m x) t.2) ∙ with_lies p o t.0 t.1
  on_form p (element.State n) x e = absurd cc
  on_form p (element.Choice c) x e = absurd cc
  on_form p (element.Initial g) x e = absurd cc
  on_form p (element.Signal t) x e = absurd cc
  on_form p (element.Action t) x e = absurd cc
  on_form p (element.Guard t) x e = absurd cc
  on_form p (element.Entry d) x e = absurd cc
  on_form p (element.Exit d) x e = absurd cc

  transitions_lie : (p : Option ℕ) → list_all (on_lies m) (transitions_of es p) ≡ true
  transitions_lie p =
      all_items (on_lies m) (transitions_of es p)
      (λ k x h.
      let t = part_there (λ (e : BehaviorElement). same_place p e.parent) (λ (e : BehaviorElement). on_in es p e.form) es k x h in
      on_form p t.element.form x t.gives)

  -- ---- states and choices

  state_lies : (v : ℕ) → node_lies m (state_node es v) ≡ true
  state_lies v =
      join _ (list_all (on_lies m) (transitions_of es (Some v)))
      (join _ (numbers_lie (length m.actions) (exit_of es (Some v)))
      (join (if_some (step_lies m) (initial_of es (Some v))) (numbers_lie (length m.actions) (entry_of es (Some v))) (initial_lies (Some v))
      (firsts_lie (entry_in es) entry_form (Some v)))
      (firsts_lie (exit_in es) exit_form (Some v)))
      (transitions_lie (Some v))

  known_lies : (g : Name) → KnownGuard es g → nat_lt (unwrap_or (guard_meant es g) 0) (length m.guards) ≡ true
  known_lies g k =
      let t = some_of (guard_named es (outline es) g) k in
      let is : guard_meant es g ≡ Some (guard_number es t.0) = ap (option_map (guard_number es)) t.1 in
      ap (λ (o : Option ℕ). nat_lt (unwrap_or o 0) (length m.guards)) is ∙ guard_lies es kinds g (guard_number es t.0) is

  choice_lies : (p : Option ℕ) (c : Choice) → KnownGuard es c.guard → node_lies m (choice_node es p c) ≡ true
  choice_lies p c k =
      join (nat_lt (unwrap_or (guard_meant es c.guard) 0) (length m.guards) && step_lies m (step_of es p c.met)) (step_lies m (step_of es p c.unmet))
      (join (nat_lt (unwrap_or (guard_meant es c.guard) 0) (length m.guards)) (step_lies m (step_of es p c.met)) (known_lies c.guard k) (goto_lies p c.met))
      (goto_lies p c.unmet)

  form_lies : (v : ℕ) (p : Option ℕ) (f : ElementForm) (x : Vertex) → KnownIn es p f → vertex_in es v p f ≡ Some x → node_lies m x.node ≡ true
  form_lies v p (element.State n) x k e = sym (ap (λ (y : Vertex). node_lies m y.node) (same_some e)) ∙ state_lies v
  form_lies v p (element.Choice c) x k e = sym (ap (λ (y : Vertex). node_lies m y.node) (same_some e)) ∙ choice_lies p c k.0
  form_lies v p (element.Initial g) x k e = absurd cc
  form_lies v p (element.Signal t) x k e = absurd cc
  form_lies v p (element.Action t) x k e = absurd cc
  form_lies v p (element.Guard t) x k e = absurd cc
  form_lies v p (element.On o) x k e = absurd cc
  form_lies v p (element.Entry d) x k e = absurd cc
  form_lies v p (element.Exit d) x k e = absurd cc

  module _ (in_order : AreInOrder (outline es)) (known : (v : ℕ) (e : BehaviorElement) → slice_get es v ≡ Some e → KnownIn es e.parent e.form) where
    parent_lies : (v : ℕ) (e : BehaviorElement) → slice_get es v ≡ Some e → (p : Option ℕ) → e.parent ≡ p
        → if_some (λ q. nat_lt q (length m.vertices)) (option_map (vertex_number es) p) ≡ true
    parent_lies v e h None q = refl
    parent_lies v e h (Some w) q =
        let s = state_at es w (behind es in_order v w e h q).is_state in
        below_told (vertex_number es w) (length m.vertices) (vertex_lies_below es w s.element s.here (state_passes es w s))

    vertices_lie : list_all (vertex_lies m) m.vertices ≡ true
    vertices_lie =
        all_items (vertex_lies m) m.vertices
        (λ n x h.
        let b = vertex_back es n x h in
        join (if_some (λ q. nat_lt q (length m.vertices)) x.parent) (node_lies m x.node)
        (ap (if_some (λ q. nat_lt q (length m.vertices))) (vertex_parent es b.at b.element.parent b.element.form x b.is)
        ∙ parent_lies b.at b.element b.here b.element.parent refl)
        (form_lies b.at b.element.parent b.element.form x (known b.at b.element b.here) b.is))

    -- ---- all

    declared_lie : (types : ℕ) → ((at : ℕ) (k : Kind) → kind_at kinds at ≡ Some k → kind_lies types k ≡ true) → (part : ElementForm → Option TypedName) (test : ElementForm → Bool)
        → ((f : ElementForm) → is_some (part f) ≡ test f) → list_all (named_lies types) (declared_from part kinds 0 es) ≡ true
    declared_lie types kinds_lie part test same =
        all_items (named_lies types) (declared_from part kinds 0 es)
        (λ n x h.
        let b = declared_back part test same kinds es n x h in
        sym (ap (named_lies types) b.is) ∙ if_there (kind_lies types) (kind_at kinds b.at) (kinds_lie b.at))

    pub positions_lie : (types : ℕ) → ((at : ℕ) (k : Kind) → kind_at kinds at ≡ Some k → kind_lies types k ≡ true) → machine_lies types m ≡ true
    positions_lie types kinds_lie =
        join _ (list_all (vertex_lies m) m.vertices)
        (join _ (if_some (step_lies m) m.initial)
        (join _ (list_all (named_lies types) m.guards)
        (join (list_all (named_lies types) m.signals) (list_all (named_lies types) m.actions) (declared_lie types kinds_lie signal_in is_signal signal_same)
        (declared_lie types kinds_lie action_in is_action action_same))
        (declared_lie types kinds_lie guard_in is_guard guard_same))
        (initial_lies None))
        vertices_lie
