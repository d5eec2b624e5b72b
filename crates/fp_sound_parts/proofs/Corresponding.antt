-- The states and choices among the elements of a machine are its vertices.
use Rattle.std.proofs.Common.{◌≡◌, ℕ, true, List, slice_get, Option, Some, None, refl, sym, ap, ◌∙◌}
use Rattle.std.specs.Option.{option_and_then, option_map, unwrap_or}
use Rattle.fp_base.proofs.Options.{one_some}
use Rattle.fp_tree.specs.declared.machine.BehaviorElement.{BehaviorElement}
use Rattle.fp_tree.specs.declared.machine.Choice as tree
use Rattle.fp_tree.specs.declared.machine.ElementForm.{ElementForm}
use Rattle.fp_tree.specs.declared.machine.ElementForm.TheVariants as element
use Rattle.fp_tree.specs.declared.name.Name.{Name}
use Rattle.fp_tree.specs.declared.name.Qual.{Qual}
use Rattle.fp_tables.specs.Machines.{node_at}
use Rattle.fp_tables.specs.declared.machine.Node.{Node}
use Rattle.fp_tables.specs.declared.machine.Vertex.{Vertex}
use Rattle.fp_machine_rules.specs.declared.item.Target.{Target}
use Rattle.fp_machine_rules.specs.declared.item.Target.TheVariants.{Stays, Undefined, To}
use Rattle.fp_machine_rules.specs.declared.item.Form.{Form}
use Rattle.fp_machine_rules.specs.declared.item.Form.TheVariants as form
use Rattle.fp_machine_rules.specs.declared.item.Item.{Item}
use Rattle.fp_machine_rules.specs.Forms as forms
use Rattle.fp_machine_rules.specs.Forms.{Stands, StandsIn, IsState, IsVertex}
use Rattle.fp_machine_rules.specs.Through.{Branches, met, unmet}
use Rattle.fp_machines.specs.Outline.{outline}
use Rattle.fp_machines.specs.Scopes.{vertex_meant}
use Rattle.fp_machines.specs.Steps.{laid_form, laid_item, laid_items, target_of, to_vertex}
use Rattle.fp_machines.proofs.Laid.{laid_stands}
use Rattle.fp_machines.specs.Made.{choice_node, entry_of, exit_of, guard_meant, initial_of, is_vertex, state_node, step_of, transitions_of, vertex_in, vertex_number, vertex_with, vertices_from}
use Rattle.fp_machines.specs.Ordered.{AreInOrder}
use Rattle.fp_sound_parts.proofs.Meant.{IsVertexAt, vertex_meant_is}
use Rattle.fp_sound_parts.proofs.Rings.{state_is_vertex}
use Rattle.fp_sound_parts.proofs.Standing.{Corresponds, HasParent, IsChoiceNode, IsStateNode, to_number}
use Rattle.fp_sound_parts.proofs.Vertices.{item_back, item_here, number_grows, number_once, vertex_back, vertex_here}

-- ---- targets

pub meant_number : (number : ℕ → ℕ) (o : Option ℕ) → option_map number o ≡ to_number number (to_vertex o)
meant_number number None = refl
meant_number number (Some v) = refl

meant_there : (o : Option ℕ) (w : ℕ) → to_vertex o ≡ To w → o ≡ Some w
meant_there None w e = absurd cc
meant_there (Some v) w e = ap vertex_of e
  where
    vertex_of : Target → Option ℕ
    vertex_of Stays = None
    vertex_of Undefined = None
    vertex_of (To v) = Some v

abbrev first_target : Form → Target
first_target (form.Choice n a b) = a
first_target _ = Stays

abbrev second_target : Form → Target
second_target (form.Choice n a b) = b
second_target _ = Stays

module _ (es : List BehaviorElement) where
  abbrev pub items : List Item
  items = laid_items es (outline es)

  abbrev pub vertices : List Vertex
  vertices = vertices_from es 0 es

  -- ---- elements

  laid_vertex : (p : Option ℕ) (f : ElementForm) → forms.is_vertex (laid_form es (outline es) p f) ≡ is_vertex f
  laid_vertex p (element.State n) = refl
  laid_vertex p (element.Choice n) = refl
  laid_vertex p (element.Initial n) = refl
  laid_vertex p (element.Signal n) = refl
  laid_vertex p (element.Action n) = refl
  laid_vertex p (element.Guard n) = refl
  laid_vertex p (element.On n) = refl
  laid_vertex p (element.Entry n) = refl
  laid_vertex p (element.Exit n) = refl

  pub vertex_of_item : (v : ℕ) → IsVertex items v → IsVertexAt es v
  vertex_of_item v s =
      let b = item_back es v s.item s.here in
      record { element = b.element; here = b.here; is = sym (laid_vertex b.element.parent b.element.form) ∙ (ap (λ (x : Item). forms.is_vertex x.form) b.is ∙ s.holds) }

  pub item_of_vertex : (v : ℕ) → IsVertexAt es v → IsVertex items v
  item_of_vertex v s =
      record { item = laid_item es (outline es) s.element; here = item_here es v s.element s.here; holds = laid_vertex s.element.parent s.element.form ∙ s.is }

  pub target_is : (p : Option ℕ) (q : Qual) (w : ℕ) → target_of es (outline es) p q ≡ To w → IsVertex items w
  target_is p q w e = item_of_vertex w (vertex_meant_is es p q.names w (meant_there (vertex_meant es (outline es) p q.names) w e))

  pub goes_to : (p : Option ℕ) (q : Qual) → option_map (vertex_number es) (vertex_meant es (outline es) p q.names) ≡ to_number (vertex_number es) (target_of es (outline es) p q)
  goes_to p q = meant_number (vertex_number es) (vertex_meant es (outline es) p q.names)

  -- ---- vertices

  -- the vertex of an element
  pub record IsThere (v : ℕ) (e : BehaviorElement) : Type 0 where
    pub vertex : Vertex
    pub here : slice_get vertices (vertex_number es v) ≡ Some vertex
    pub parent : vertex.parent ≡ option_map (vertex_number es) e.parent

  pub there : (v : ℕ) (e : BehaviorElement) → slice_get es v ≡ Some e → is_vertex e.form ≡ true → IsThere v e
  there v e h is = go e.form refl is
    where
      go : (f : ElementForm) → e.form ≡ f → is_vertex f ≡ true → IsThere v e
      go (element.State n) f is =
          let x : Vertex = vertex_with es n e.parent (state_node es v) in
          record { vertex = x; here = vertex_here es v e x h (ap (vertex_in es v e.parent) f); parent = refl }
      go (element.Choice c) f is =
          let x : Vertex = vertex_with es c.name e.parent (choice_node es e.parent c) in
          record { vertex = x; here = vertex_here es v e x h (ap (vertex_in es v e.parent) f); parent = refl }
      go (element.Initial n) f is = absurd cc
      go (element.Signal n) f is = absurd cc
      go (element.Action n) f is = absurd cc
      go (element.Guard n) f is = absurd cc
      go (element.On n) f is = absurd cc
      go (element.Entry n) f is = absurd cc
      go (element.Exit n) f is = absurd cc

  pub state_node_there : (v : ℕ) (e : BehaviorElement) (n : Name) → slice_get es v ≡ Some e → e.form ≡ element.State n → node_at vertices (vertex_number es v) ≡ Some (state_node es v)
  state_node_there v e n h f =
      let x : Vertex = vertex_with es n e.parent (state_node es v) in
      ap (λ (o : Option Vertex). option_map (λ (x : Vertex). x.node) o) (vertex_here es v e x h (ap (vertex_in es v e.parent) f))

  pub choice_node_there : (v : ℕ) (e : BehaviorElement) (c : tree.Choice) → slice_get es v ≡ Some e → e.form ≡ element.Choice c
      → node_at vertices (vertex_number es v) ≡ Some (choice_node es e.parent c)
  choice_node_there v e c h f =
      let x : Vertex = vertex_with es c.name e.parent (choice_node es e.parent c) in
      ap (λ (o : Option Vertex). option_map (λ (x : Vertex). x.node) o) (vertex_here es v e x h (ap (vertex_in es v e.parent) f))

  -- the element of a choice
  pub record IsChoiceAt (v : ℕ) (a b : Target) : Type 0 where
    pub source : BehaviorElement
    pub here : slice_get es v ≡ Some source
    pub choice : tree.Choice
    pub form : source.form ≡ element.Choice choice
    pub to_met : target_of es (outline es) source.parent choice.met.target ≡ a
    pub to_unmet : target_of es (outline es) source.parent choice.unmet.target ≡ b

  pub choice_at : (v name : ℕ) (a b : Target) (p : Option ℕ) → Stands items v (form.Choice name a b) p → IsChoiceAt v a b
  choice_at v name a b p s = let x = item_back es v s.item s.here in go x.element x.here x.element.form refl (ap (λ (x : Item). x.form) x.is ∙ s.form)
    where
      go : (e : BehaviorElement) → slice_get es v ≡ Some e → (f : ElementForm) → e.form ≡ f → laid_form es (outline es) e.parent f ≡ form.Choice name a b → IsChoiceAt v a b
      go e h (element.Choice c) is l = record { source = e; here = h; choice = c; form = is; to_met = ap first_target l; to_unmet = ap second_target l }
      go e h (element.State n) is l = absurd cc
      go e h (element.Initial n) is l = absurd cc
      go e h (element.Signal n) is l = absurd cc
      go e h (element.Action n) is l = absurd cc
      go e h (element.Guard n) is l = absurd cc
      go e h (element.On n) is l = absurd cc
      go e h (element.Entry n) is l = absurd cc
      go e h (element.Exit n) is l = absurd cc

  -- the element of a state
  pub record IsStateAt (v : ℕ) : Type 0 where
    pub source : BehaviorElement
    pub here : slice_get es v ≡ Some source
    pub name : Name
    pub form : source.form ≡ element.State name

  pub state_at : (v : ℕ) → IsState items v → IsStateAt v
  state_at v s =
      let x = item_back es v s.item s.here in go x.element x.here x.element.form refl (ap (λ (x : Item). forms.is_state x.form) x.is ∙ s.holds)
    where
      go : (e : BehaviorElement) → slice_get es v ≡ Some e → (f : ElementForm) → e.form ≡ f → forms.is_state (laid_form es (outline es) e.parent f) ≡ true → IsStateAt v
      go e h (element.State n) is l = record { source = e; here = h; name = n; form = is }
      go e h (element.Choice n) is l = absurd cc
      go e h (element.Initial n) is l = absurd cc
      go e h (element.Signal n) is l = absurd cc
      go e h (element.Action n) is l = absurd cc
      go e h (element.Guard n) is l = absurd cc
      go e h (element.On n) is l = absurd cc
      go e h (element.Entry n) is l = absurd cc
      go e h (element.Exit n) is l = absurd cc

  -- ---- what corresponds

  choice_goes : (v name : ℕ) (a b : Target) (p : Option ℕ) → Stands items v (form.Choice name a b) p → IsChoiceNode (vertex_number es) (node_at vertices (vertex_number es v)) a b
  choice_goes v name a b p s =
      let c = choice_at v name a b p s in
      record {
        guard = unwrap_or (guard_meant es c.choice.guard) 0;
        met = step_of es c.source.parent c.choice.met;
        unmet = step_of es c.source.parent c.choice.unmet;
        is = choice_node_there v c.source c.choice c.here c.form;
        to_met = goes_to c.source.parent c.choice.met.target ∙ ap (to_number (vertex_number es)) c.to_met;
        to_unmet = goes_to c.source.parent c.choice.unmet.target ∙ ap (to_number (vertex_number es)) c.to_unmet;
      }

  branch_leads : (v w : ℕ) → (t : Target) → t ≡ To w → Branches items v t → IsVertex items w
  branch_leads v w t e (met {name = n} {target = a} {other = b} {p = p} s) =
      let c = choice_at v n a b p s in target_is c.source.parent c.choice.met.target w (c.to_met ∙ e)
  branch_leads v w t e (unmet {name = n} {target = a} {other = b} {p = p} s) =
      let c = choice_at v n b a p s in target_is c.source.parent c.choice.unmet.target w (c.to_unmet ∙ e)

  vertex_from : (n : ℕ) (x : Vertex) → slice_get vertices n ≡ Some x → (v : ℕ) × IsVertex items v × (vertex_number es v ≡ n)
  vertex_from n x h = let b = vertex_back es n x h in (b.at, item_of_vertex b.at (record { element = b.element; here = b.here; is = b.passes }), sym b.number)

  one_vertex : (v w : ℕ) → IsVertex items v → IsVertex items w → vertex_number es v ≡ vertex_number es w → v ≡ w
  one_vertex v w s t e =
      let a = vertex_of_item v s in let b = vertex_of_item w t in
      number_once is_vertex es v w a.element b.element a.here a.is b.here b.is e

  parent_there : AreInOrder (outline es) → (v p : ℕ) → IsVertex items v → StandsIn items v (Some p) → HasParent items vertices (vertex_number es) v p
  parent_there order v p is s =
      let laid = laid_stands es (λ v p s. let b = order v p s in (b.before, b.is_state)) v p s in
      let outer = vertex_of_item p (state_is_vertex items p laid.1) in
      let inner = vertex_of_item v is in
      let x = there v inner.element inner.here inner.is in
      let same : laid_item es (outline es) inner.element ≡ s.item = one_some (slice_get items v) (laid_item es (outline es) inner.element) s.item (item_here es v inner.element inner.here) s.here in
      record {
        state = laid.1;
        rises = number_grows is_vertex es p v outer.element outer.here outer.is laid.0;
        parent =
            ap (λ (o : Option Vertex). option_and_then (λ (x : Vertex). x.parent) o) x.here
            ∙ (x.parent ∙ ap (option_map (vertex_number es)) (ap (λ (x : Item). x.parent) same ∙ s.parent));
      }

  pub corresponds : AreInOrder (outline es) → Corresponds items vertices (vertex_number es)
  corresponds order = record {
    choice = choice_goes;
    state = λ v s. let t = state_at v s in state_goes v (state_node_there v t.source t.name t.here t.form);
    leads = λ v w b. branch_leads v w (To w) refl b;
    back = vertex_from;
    same = one_vertex;
    parent = parent_there order;
  }
    where
      state_goes : (v : ℕ) {o : Option Node} → o ≡ Some (state_node es v) → IsStateNode o
      state_goes v e = record { initial = initial_of es (Some v); entry = entry_of es (Some v); exit = exit_of es (Some v); on = transitions_of es (Some v); is = e }
