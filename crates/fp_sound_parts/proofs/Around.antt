-- The states that stand round an element.
use Rattle.std.proofs.Common.{◌≡◌, ℕ, ◌<◌, ◌⊎◌, true, List, length, slice_get, Option, Some, refl, sym, ap, subst, ◌∙◌, inl, inr}
use Rattle.std.specs.Prelude.{option_and_then, option_map}
use Rattle.fp_base.proofs.Options.{same_some}
use Rattle.fp_tree.specs.declared.name.Name.{Name}
use Rattle.fp_tree.specs.declared.machine.BehaviorElement.{BehaviorElement}
use Rattle.fp_tree.specs.declared.machine.ElementForm.{ElementForm}
use Rattle.fp_tree.specs.declared.machine.ElementForm.TheVariants as form
use Rattle.fp_tables.specs.declared.machine.Vertex.{Vertex}
use Rattle.fp_machine_rules.specs.declared.item.Item.{Item}
use Rattle.fp_machine_rules.specs.Forms.{Inside, IsState, StandsIn, deeper, directly, is_state}
use Rattle.fp_machines.specs.Outline.{outline, outline_of, outlined}
use Rattle.fp_machines.specs.Made.{is_vertex, vertex_in, vertex_number, vertices_from}
use Rattle.fp_machines.specs.Ordered.{AreInOrder, StandsBehind}
use Rattle.fp_sound_parts.proofs.Vertices.{number_below, number_grows, outline_back, outline_here, vertex_here, vertices_length}

-- ---- states

pub record IsStateAt (es : List BehaviorElement) (v : ℕ) : Type 0 where
  pub element : BehaviorElement
  pub here : slice_get es v ≡ Some element
  pub name : Name
  pub is : element.form ≡ form.State name

module _ (es : List BehaviorElement) where
  state_form : (f : ElementForm) → is_state (outlined es f) ≡ true → (n : Name) × (f ≡ form.State n)
  state_form (form.State n) e = (n, refl)
  state_form (form.Choice c) e = absurd cc
  state_form (form.Initial g) e = absurd cc
  state_form (form.Signal t) e = absurd cc
  state_form (form.Action t) e = absurd cc
  state_form (form.Guard t) e = absurd cc
  state_form (form.On o) e = absurd cc
  state_form (form.Entry d) e = absurd cc
  state_form (form.Exit d) e = absurd cc

  pub state_at : (v : ℕ) → IsState (outline es) v → IsStateAt es v
  state_at v s =
      let o = outline_back es v s.item s.here in
      let f = state_form o.element.form (ap (λ (x : Item). is_state x.form) o.is ∙ s.holds) in
      record { element = o.element; here = o.here; name = f.0; is = f.1 }

  pub state_passes : (v : ℕ) (s : IsStateAt es v) → is_vertex s.element.form ≡ true
  state_passes v s = ap is_vertex s.is

  -- the element that stands in a state
  pub record IsElementIn (v : ℕ) (p : Option ℕ) : Type 0 where
    pub element : BehaviorElement
    pub here : slice_get es v ≡ Some element
    pub parent : element.parent ≡ p

  pub element_in : (v : ℕ) (p : Option ℕ) → StandsIn (outline es) v p → IsElementIn v p
  element_in v p s =
      let o = outline_back es v s.item s.here in
      record { element = o.element; here = o.here; parent = ap (λ (x : Item). x.parent) o.is ∙ s.parent }

  pub stands_in : (v : ℕ) (e : BehaviorElement) (p : Option ℕ) → slice_get es v ≡ Some e → e.parent ≡ p → StandsIn (outline es) v p
  stands_in v e p h q = record { item = outline_of es e; here = outline_here es v e h; parent = q }

-- ---- the vertex of an element

module _ (es : List BehaviorElement) where
  pub made_vertex : (v : ℕ) (p : Option ℕ) (f : ElementForm) → is_vertex f ≡ true → (x : Vertex) × (vertex_in es v p f ≡ Some x)
  made_vertex v p (form.State n) e = (_, refl)
  made_vertex v p (form.Choice c) e = (_, refl)
  made_vertex v p (form.Initial g) e = absurd cc
  made_vertex v p (form.Signal t) e = absurd cc
  made_vertex v p (form.Action t) e = absurd cc
  made_vertex v p (form.Guard t) e = absurd cc
  made_vertex v p (form.On o) e = absurd cc
  made_vertex v p (form.Entry d) e = absurd cc
  made_vertex v p (form.Exit d) e = absurd cc

  pub vertex_parent : (v : ℕ) (p : Option ℕ) (f : ElementForm) (x : Vertex) → vertex_in es v p f ≡ Some x → x.parent ≡ option_map (vertex_number es) p
  vertex_parent v p (form.State n) x e = sym (ap (λ (y : Vertex). y.parent) (same_some e))
  vertex_parent v p (form.Choice c) x e = sym (ap (λ (y : Vertex). y.parent) (same_some e))
  vertex_parent v p (form.Initial g) x e = absurd cc
  vertex_parent v p (form.Signal t) x e = absurd cc
  vertex_parent v p (form.Action t) x e = absurd cc
  vertex_parent v p (form.Guard t) x e = absurd cc
  vertex_parent v p (form.On o) x e = absurd cc
  vertex_parent v p (form.Entry d) x e = absurd cc
  vertex_parent v p (form.Exit d) x e = absurd cc

  -- the vertex that the vertex of an element stands in
  pub parent_of : (v : ℕ) (e : BehaviorElement) → slice_get es v ≡ Some e → is_vertex e.form ≡ true
      → option_and_then (λ (x : Vertex). x.parent) (slice_get (vertices_from es 0 es) (vertex_number es v)) ≡ option_map (vertex_number es) e.parent
  parent_of v e h t =
      let m = made_vertex v e.parent e.form t in
      ap (λ (o : Option Vertex). option_and_then (λ (x : Vertex). x.parent) o) (vertex_here es v e m.0 h m.1) ∙ vertex_parent v e.parent e.form m.0 m.1

  pub vertex_lies_below : (v : ℕ) (e : BehaviorElement) → slice_get es v ≡ Some e → is_vertex e.form ≡ true → vertex_number es v < length (vertices_from es 0 es)
  vertex_lies_below v e h t = subst (λ (n : ℕ). vertex_number es v < n) (sym (vertices_length es)) (number_below is_vertex es v e h t)

-- ---- in order

module _ (es : List BehaviorElement) (in_order : AreInOrder (outline es)) where
  pub behind : (v state : ℕ) (e : BehaviorElement) → slice_get es v ≡ Some e → e.parent ≡ Some state → StandsBehind (outline es) v state
  behind v state e h q = in_order v state (stands_in es v e (Some state) h q)

  -- the state round an element is an earlier vertex
  pub around_before : (v state : ℕ) → (b : StandsBehind (outline es) v state) → vertex_number es state < vertex_number es v
  around_before v state b = let s = state_at es state b.is_state in number_grows is_vertex es state v s.element s.here (state_passes es state s) b.before

-- ---- inside

module _ (items : List Item) where
  -- the state that it stands in is the state, or inside it
  pub inside_first : (state u : ℕ) → Inside items state u → (q : ℕ) × StandsIn items u (Some q) × ((q ≡ state) ⊎ Inside items state q)
  inside_first state u (directly s) = (state, s, inl refl)
  inside_first state u (deeper {around = q} s i) = (q, s, inr i)

  pub inside_through : {a b c : ℕ} → Inside items a b → Inside items b c → Inside items a c
  inside_through i (directly s) = deeper s i
  inside_through i (deeper s j) = deeper s (inside_through i j)

  pub inside_from : (state q u : ℕ) → (q ≡ state) ⊎ Inside items state q → Inside items q u → Inside items state u
  inside_from state q u (inl e) i = subst (λ (k : ℕ). Inside items k u) e i
  inside_from state q u (inr j) i = inside_through j i
