-- A machine that breaks no rule is of size: so many vertices, signals and levels.
use Rattle.std.proofs.Common.{◌≡◌, ℕ, zero, suc, ◌+◌, ◌<◌, ◌≤◌, Bool, true, false, cond, List, [], ◌∷◌, length, filter, map, slice_get, Option, Some, None, refl, sym, ap, subst, ◌∙◌, inl, inr, arith}
use Rattle.std.specs.Prelude.{nat_le, option_map}
use Rattle.std.proofs.lemmas.Bool.Decides.{nat_tests}
use Rattle.fp_base.proofs.Bools.{join}
use Rattle.fp_base.proofs.Options.{same_some}
use Rattle.fp_base.specs.declared.place.Place.{Place}
use Rattle.fp_base.specs.declared.rule.Rule.TheVariants.{MachineTooLarge}
use Rattle.fp_base.specs.Least.{IsUnbroken, broken_at}
use Rattle.fp_tree.specs.declared.machine.BehaviorElement.{BehaviorElement}
use Rattle.fp_tree.specs.declared.machine.ElementForm.{ElementForm}
use Rattle.fp_tree.specs.declared.machine.ElementForm.TheVariants as element
use Rattle.fp_tables.specs.Lists.{all_from, if_some}
use Rattle.fp_tables.specs.Machines.{is_machine_of_size, is_nested_by}
use Rattle.fp_tables.specs.declared.kind.Kind.{Kind}
use Rattle.fp_tables.specs.declared.machine.Vertex.{Vertex}
use Rattle.fp_machine_rules.specs.declared.item.Item.{Item}
use Rattle.fp_machine_rules.specs.Broken.{MachineBroken}
use Rattle.fp_machine_rules.specs.Forms as forms
use Rattle.fp_machine_rules.specs.Forms.{StandsIn}
use Rattle.fp_machine_rules.specs.Nested.{Deep, IsTooLarge, below, outermost}
use Rattle.fp_machines.specs.Layout.{laid}
use Rattle.fp_machines.specs.Outline.{outline}
use Rattle.fp_machines.specs.Steps.{laid_form, laid_item, laid_items}
use Rattle.fp_machines.specs.Made.{is_signal, is_vertex, machine_with, signal_in, vertex_number, vertices_from}
use Rattle.fp_machines.specs.Ordered.{AreInOrder}
use Rattle.fp_sound_parts.proofs.Around.{behind, parent_of, state_at, state_passes}
use Rattle.fp_sound_parts.proofs.Declaring.{signal_same}
use Rattle.fp_sound_parts.proofs.Tests.{all_from_each}
use Rattle.fp_sound_parts.proofs.Vertices.{declared_length, item_back, item_here, vertex_back, vertices_length}

-- ---- what is counted

counted_alike : {E X : Type 0} (make : E → X) (test : X → Bool) (pass : E → Bool) → ((e : E) → test (make e) ≡ pass e) → (es : List E)
    → length (filter test (map make es)) ≡ length (filter pass es)
counted_alike make test pass same [] = refl
counted_alike {E = E} make test pass same (e ∷ es) = go (test (make e)) (pass e) (same e) (counted_alike make test pass same es)
  where
    go : (a b : Bool) → a ≡ b → length (filter test (map make es)) ≡ length (filter pass es)
        → length (cond a (make e ∷ filter test (map make es)) (filter test (map make es))) ≡ length (cond b (e ∷ filter pass es) (filter pass es))
    go true true h k = ap suc k
    go false false h k = k
    go true false h k = absurd cc
    go false true h k = absurd cc

module _ (es : List BehaviorElement) where
  vertex_form : (p : Option ℕ) (f : ElementForm) → forms.is_vertex (laid_form es (outline es) p f) ≡ is_vertex f
  vertex_form p (element.State n) = refl
  vertex_form p (element.Choice c) = refl
  vertex_form p (element.Initial g) = refl
  vertex_form p (element.Signal t) = refl
  vertex_form p (element.Action t) = refl
  vertex_form p (element.Guard t) = refl
  vertex_form p (element.On o) = refl
  vertex_form p (element.Entry d) = refl
  vertex_form p (element.Exit d) = refl

  signal_form : (p : Option ℕ) (f : ElementForm) → forms.is_signal (laid_form es (outline es) p f) ≡ is_signal f
  signal_form p (element.State n) = refl
  signal_form p (element.Choice c) = refl
  signal_form p (element.Initial g) = refl
  signal_form p (element.Signal t) = refl
  signal_form p (element.Action t) = refl
  signal_form p (element.Guard t) = refl
  signal_form p (element.On o) = refl
  signal_form p (element.Entry d) = refl
  signal_form p (element.Exit d) = refl

  vertices_counted : length (filter (λ (x : Item). forms.is_vertex x.form) (laid_items es (outline es))) ≡ length (vertices_from es 0 es)
  vertices_counted =
      counted_alike (laid_item es (outline es)) (λ (x : Item). forms.is_vertex x.form) (λ (e : BehaviorElement). is_vertex e.form) (λ e. vertex_form e.parent e.form) es
      ∙ sym (vertices_length es)

  signals_counted : length (filter (λ (x : Item). forms.is_signal x.form) (laid_items es (outline es))) ≡ length (filter (λ (e : BehaviorElement). is_signal e.form) es)
  signals_counted =
      counted_alike (laid_item es (outline es)) (λ (x : Item). forms.is_signal x.form) (λ (e : BehaviorElement). is_signal e.form) (λ e. signal_form e.parent e.form) es

-- ---- levels

module _ (es : List BehaviorElement) (in_order : AreInOrder (outline es)) where
  abbrev items : List Item
  items = laid_items es (outline es)

  abbrev vs : List Vertex
  vs = vertices_from es 0 es

  in_item : (v : ℕ) (e : BehaviorElement) (p : Option ℕ) → slice_get es v ≡ Some e → e.parent ≡ p → StandsIn items v p
  in_item v e p h q = record { item = laid_item es (outline es) e; here = item_here es v e h; parent = q }

  -- each element stands at some level
  level : (bound v : ℕ) (e : BehaviorElement) → v < bound → slice_get es v ≡ Some e → (n : ℕ) × Deep items v n
  level zero v e l h = absurd (omega arith)
  level (suc bound) v e l h = go e.parent refl (λ w d k g. level bound w d k g)
    where
      go : (p : Option ℕ) → e.parent ≡ p → ((w : ℕ) (d : BehaviorElement) → w < bound → slice_get es w ≡ Some d → (n : ℕ) × Deep items w n) → (n : ℕ) × Deep items v n
      go None q rest = (1, outermost (in_item v e None h q))
      go (Some w) q rest =
          let b = behind es in_order v w e h q in
          let s = state_at es w b.is_state in
          let less = b.before in
          let r = rest w s.element (omega (arith, l, less)) s.here in
          (r.0 + 1, below (in_item v e (Some w) h q) r.1)

  parent_is : (v : ℕ) (e : BehaviorElement) (p : Option ℕ) → slice_get es v ≡ Some e → StandsIn items v p → e.parent ≡ p
  parent_is v e p h s =
      let o = item_back es v s.item s.here in
      ap (λ (x : BehaviorElement). x.parent) (same_some (sym h ∙ o.here)) ∙ (ap (λ (x : Item). x.parent) o.is ∙ s.parent)

  nested : (fuel v n : ℕ) (e : BehaviorElement) → Deep items v n → n ≤ fuel → slice_get es v ≡ Some e → is_vertex e.form ≡ true → is_nested_by vs fuel (vertex_number es v) ≡ true
  unfolding is_nested_by
  nested zero v n e (outermost s) l h t = absurd (omega arith)
  nested zero v n e (below s d) l h t = absurd (omega arith)
  nested (suc fuel) v n e (outermost s) l h t =
      ap (if_some (is_nested_by vs fuel)) (parent_of es v e h t ∙ ap (option_map (vertex_number es)) (parent_is v e None h s))
  nested (suc fuel) v n e (below {parent = w} {n = m} s d) l h t =
      let q = parent_is v e (Some w) h s in
      let b = behind es in_order v w e h q in
      let p = state_at es w b.is_state in
      ap (if_some (is_nested_by vs fuel)) (parent_of es v e h t ∙ ap (option_map (vertex_number es)) q)
      ∙ nested fuel w m p.element d (omega arith) p.here (state_passes es w p)

-- ---- of size

at_most : (m n : ℕ) → (n < m → ⊥) → nat_le m n ≡ true
at_most m n h = go (nat_le m n) refl
  where
    go : (b : Bool) → nat_le m n ≡ b → nat_le m n ≡ true
    go true e = e
    go false e = let l : n < m = grind (arith, nat_tests) in absurd (h l)

low : (m n : ℕ) → (n < m → ⊥) → m ≤ n
low m n h = let e = at_most m n h in grind (arith, nat_tests)

module _ (place : Place) (es : List BehaviorElement) (types : List (Option ℕ)) (in_order : AreInOrder (outline es)) (unbroken : IsUnbroken (MachineBroken (laid place es types))) where
  small : IsTooLarge (laid_items es (outline es)) → ⊥
  small large = unbroken (broken_at MachineTooLarge place) (inl (inr (refl, large)))

  one_nested : (n : ℕ) (x : Vertex) → slice_get (vertices_from es 0 es) n ≡ Some x → is_nested_by (vertices_from es 0 es) 16 n ≡ true
  one_nested n x h =
      let b = vertex_back es n x h in
      let d = level es in_order (suc b.at) b.at b.element (omega arith) b.here in
      ap (is_nested_by (vertices_from es 0 es) 16) b.number
      ∙ nested es in_order 16 b.at d.0 b.element d.1 (low d.0 16 (λ l. small (inl (
        b.at,
        record {
          is = record { item = laid_item es (outline es) b.element; here = item_here es b.at b.element b.here; holds = vertex_form es b.element.parent b.element.form ∙ b.passes };
          levels = d.0;
          deep = d.1;
          past = l;
        },
      )))) b.here b.passes

  pub machine_of_size : (name : List ℕ) (kinds : List (Option Kind)) → is_machine_of_size (machine_with es name kinds) ≡ true
  machine_of_size name kinds =
      join _ (all_from (λ n (_ : Vertex). is_nested_by (vertices_from es 0 es) 16 n) 0 (vertices_from es 0 es))
      (join (nat_le (length (machine_with es name kinds).vertices) 1000) (nat_le (length (machine_with es name kinds).signals) 1000)
      (at_most (length (vertices_from es 0 es)) 1000 (λ l. small (inr (inl (subst (λ (n : ℕ). 1000 < n) (sym (vertices_counted es)) l)))))
      (at_most (length (machine_with es name kinds).signals) 1000
      (λ l. small (inr (inr (subst (λ (n : ℕ). 1000 < n) (declared_length signal_in is_signal signal_same kinds es ∙ sym (signals_counted es)) l))))))
      (all_from_each (λ n (_ : Vertex). is_nested_by (vertices_from es 0 es) 16 n) 0 (vertices_from es 0 es)
      (λ k x h. let z : 0 + k ≡ k = omega arith in ap (is_nested_by (vertices_from es 0 es) 16) z ∙ one_nested k x h))
