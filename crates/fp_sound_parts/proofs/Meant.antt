-- What a name in a machine means is an element of its kind.
use Rattle.std.proofs.Common.{◌≡◌, ℕ, zero, suc, ◌+◌, Bool, true, List, [], ◌∷◌, map, length, slice_get, Option, Some, None, refl, sym, ap, subst, ◌∙◌}
use Rattle.std.specs.Prelude.{position}
use Rattle.std.proofs.lemmas.Option.{slice_get-map, some_pair_parts}
use Rattle.fp_base.proofs.Passing.{position_passes}
use Rattle.fp_base.proofs.Options.{mapped_some, same_some, then_some}
use Rattle.fp_tree.specs.declared.name.Name.{Name}
use Rattle.fp_tree.specs.declared.machine.BehaviorElement.{BehaviorElement}
use Rattle.fp_tree.specs.declared.machine.ElementForm.{ElementForm}
use Rattle.fp_tree.specs.declared.machine.ElementForm.TheVariants as element
use Rattle.fp_tree.specs.declared.machine.TypedName.{TypedName}
use Rattle.fp_machine_rules.specs.declared.item.Form.{Form}
use Rattle.fp_machine_rules.specs.declared.item.Item.{Item}
use Rattle.fp_machine_rules.specs.Leaving.{parent_at}
use Rattle.fp_machine_rules.specs.Repeated.{declared_action, declared_guard, declared_signal, in_parent, is_key, key_by, name_of}
use Rattle.fp_machine_rules.proofs.Repeats.{is_key_same}
use Rattle.fp_machines.specs.Outline.{number, outline, outlined}
use Rattle.fp_machines.specs.Scopes.{action_meant, action_named, begun, child, entered, first_in, guard_meant, guard_named, inward, or_beyond, outward, signal_meant, signal_named, vertex_meant}
use Rattle.fp_machines.specs.Made.{action_in, guard_in, is_vertex, signal_in}
use Rattle.fp_sound_parts.proofs.Vertices.{outline_back}

-- ---- the first of a name

key_parts : (q o p : Option ℕ) (n : ℕ) → in_parent q o ≡ Some (p, n) → (q ≡ p) × (o ≡ Some n)
key_parts q None p n e = absurd cc
key_parts q (Some m) p n e = let t = some_pair_parts q p m n e in (t.0, ap Some t.1)

-- an element in a state, or in the machine, with this number for its name
pub record IsNamedAt (es : List BehaviorElement) (part : Form → Option ℕ) (p : Option ℕ) (n v : ℕ) : Type 0 where
  pub element : BehaviorElement
  pub here : slice_get es v ≡ Some element
  pub parent : element.parent ≡ p
  pub has : part (outlined es element.form) ≡ Some n

pub found_at : (es : List BehaviorElement) (part : Form → Option ℕ) (p : Option ℕ) (n v : ℕ) → first_in part (outline es) p n ≡ Some v → IsNamedAt es part p n v
found_at es part p n v h =
    let f = position_passes (is_key (p, n)) (map (key_by part) (outline es)) v h in
    let m = mapped_some (key_by part) (slice_get (outline es) v) f.0 (sym (slice_get-map (key_by part) (outline es) v) ∙ f.1) in
    let o = outline_back es v m.0 m.1 in
    let k = key_parts m.0.parent (part m.0.form) p n (m.2 ∙ is_key_same (p, n) f.0 f.2) in
    record {
      element = o.element;
      here = o.here;
      parent = ap (λ (x : Item). x.parent) o.is ∙ k.0;
      has = ap (λ (x : Item). part x.form) o.is ∙ k.1;
    }

-- ---- signals, actions and guards

-- the element at a position declares one, in the machine itself
pub record IsDeclaredAt (es : List BehaviorElement) (part : ElementForm → Option TypedName) (v : ℕ) : Type 0 where
  pub element : BehaviorElement
  pub here : slice_get es v ≡ Some element
  pub parent : element.parent ≡ None
  pub of : TypedName
  pub has : part element.form ≡ Some of

module _ (es : List BehaviorElement) where
  signal_of : (f : ElementForm) (n : ℕ) → declared_signal (outlined es f) ≡ Some n → (t : TypedName) × (signal_in f ≡ Some t)
  signal_of (element.Signal t) n e = (t, refl)
  signal_of (element.State t) n e = absurd cc
  signal_of (element.Choice t) n e = absurd cc
  signal_of (element.Initial t) n e = absurd cc
  signal_of (element.Action t) n e = absurd cc
  signal_of (element.Guard t) n e = absurd cc
  signal_of (element.On t) n e = absurd cc
  signal_of (element.Entry t) n e = absurd cc
  signal_of (element.Exit t) n e = absurd cc

  action_of : (f : ElementForm) (n : ℕ) → declared_action (outlined es f) ≡ Some n → (t : TypedName) × (action_in f ≡ Some t)
  action_of (element.Action t) n e = (t, refl)
  action_of (element.State t) n e = absurd cc
  action_of (element.Choice t) n e = absurd cc
  action_of (element.Initial t) n e = absurd cc
  action_of (element.Signal t) n e = absurd cc
  action_of (element.Guard t) n e = absurd cc
  action_of (element.On t) n e = absurd cc
  action_of (element.Entry t) n e = absurd cc
  action_of (element.Exit t) n e = absurd cc

  guard_of : (f : ElementForm) (n : ℕ) → declared_guard (outlined es f) ≡ Some n → (t : TypedName) × (guard_in f ≡ Some t)
  guard_of (element.Guard t) n e = (t, refl)
  guard_of (element.State t) n e = absurd cc
  guard_of (element.Choice t) n e = absurd cc
  guard_of (element.Initial t) n e = absurd cc
  guard_of (element.Signal t) n e = absurd cc
  guard_of (element.Action t) n e = absurd cc
  guard_of (element.On t) n e = absurd cc
  guard_of (element.Entry t) n e = absurd cc
  guard_of (element.Exit t) n e = absurd cc

  pub signal_is : (s : Name) (v : ℕ) → signal_named es (outline es) s ≡ Some v → IsDeclaredAt es signal_in v
  signal_is s v h =
      let t = then_some (signal_meant (outline es)) (number es s.text) v h in
      let f = found_at es declared_signal None t.0 v t.2 in
      let d = signal_of f.element.form t.0 f.has in
      record { element = f.element; here = f.here; parent = f.parent; of = d.0; has = d.1 }

  pub action_is : (a : Name) (v : ℕ) → action_named es (outline es) a ≡ Some v → IsDeclaredAt es action_in v
  action_is a v h =
      let t = then_some (action_meant (outline es)) (number es a.text) v h in
      let f = found_at es declared_action None t.0 v t.2 in
      let d = action_of f.element.form t.0 f.has in
      record { element = f.element; here = f.here; parent = f.parent; of = d.0; has = d.1 }

  pub guard_is : (g : Name) (v : ℕ) → guard_named es (outline es) g ≡ Some v → IsDeclaredAt es guard_in v
  guard_is g v h =
      let t = then_some (guard_meant (outline es)) (number es g.text) v h in
      let f = found_at es declared_guard None t.0 v t.2 in
      let d = guard_of f.element.form t.0 f.has in
      record { element = f.element; here = f.here; parent = f.parent; of = d.0; has = d.1 }

-- ---- states and choices

pub record IsVertexAt (es : List BehaviorElement) (v : ℕ) : Type 0 where
  pub element : BehaviorElement
  pub here : slice_get es v ≡ Some element
  pub is : is_vertex element.form ≡ true

module _ (es : List BehaviorElement) where
  vertex_of : (f : ElementForm) (n : ℕ) → name_of (outlined es f) ≡ Some n → is_vertex f ≡ true
  vertex_of (element.State t) n e = refl
  vertex_of (element.Choice t) n e = refl
  vertex_of (element.Initial t) n e = absurd cc
  vertex_of (element.Signal t) n e = absurd cc
  vertex_of (element.Action t) n e = absurd cc
  vertex_of (element.Guard t) n e = absurd cc
  vertex_of (element.On t) n e = absurd cc
  vertex_of (element.Entry t) n e = absurd cc
  vertex_of (element.Exit t) n e = absurd cc

  child_is : (p : Option ℕ) (n v : ℕ) → child (outline es) p n ≡ Some v → IsVertexAt es v
  child_is p n v h = let f = found_at es name_of p n v h in record { element = f.element; here = f.here; is = vertex_of f.element.form n f.has }

  outward_is : (k : ℕ) (p : Option ℕ) (n v : ℕ) → outward (outline es) k p n ≡ Some v → IsVertexAt es v
  unfolding outward
  outward_is zero p n v h = absurd cc
  outward_is (suc k) p n v h = go (child (outline es) p n) p refl h (λ q. outward_is k q n v)
    where
      go : (c q : Option ℕ) → child (outline es) p n ≡ c → or_beyond (λ state. outward (outline es) k (parent_at (outline es) state) n) c q ≡ Some v
          → ((q : Option ℕ) → outward (outline es) k q n ≡ Some v → IsVertexAt es v) → IsVertexAt es v
      go (Some w) q is e on = child_is p n v (is ∙ e)
      go None None is e on = absurd cc
      go None (Some state) is e on = on (parent_at (outline es) state) e

  inward_is : (names : List Name) (u v : ℕ) → IsVertexAt es u → inward es (outline es) names u ≡ Some v → IsVertexAt es v
  inward_is [] u v m h = subst (λ (k : ℕ). IsVertexAt es k) (same_some h) m
  inward_is (name ∷ more) u v m h =
      let t = then_some (inward es (outline es) more) (entered es (outline es) u name) v h in
      let s = then_some (child (outline es) (Some u)) (number es name.text) t.0 t.1 in
      inward_is more t.0 v (child_is (Some u) s.0 t.0 s.2) t.2

  pub vertex_meant_is : (p : Option ℕ) (names : List Name) (v : ℕ) → vertex_meant es (outline es) p names ≡ Some v → IsVertexAt es v
  vertex_meant_is p [] v h = absurd cc
  vertex_meant_is p (name ∷ more) v h =
      let t = then_some (inward es (outline es) more) (begun es (outline es) p name) v h in
      let s = then_some (outward (outline es) (length (outline es) + 1) p) (number es name.text) t.0 t.1 in
      inward_is more t.0 v (outward_is (length (outline es) + 1) p s.0 t.0 s.2) t.2
