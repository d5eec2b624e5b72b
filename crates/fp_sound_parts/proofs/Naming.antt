-- What has a name in a machine has one that the lexical elements allow.
use Rattle.std.proofs.Common.{◌≡◌, ℕ, Bool, true, List, slice_get, Option, Some, is_some, sym, ap, subst, ◌∙◌}
use Rattle.std.specs.List.{list_all}
use Rattle.fp_base.specs.Names.{is_name}
use Rattle.fp_base.proofs.Bools.{join}
use Rattle.fp_base.proofs.Lists.{all_get}
use Rattle.fp_base.proofs.Options.{same_some}
use Rattle.fp_base.proofs.Passing.{all_items}
use Rattle.fp_tree.specs.declared.machine.BehaviorElement.{BehaviorElement}
use Rattle.fp_tree.specs.declared.machine.ElementForm.{ElementForm}
use Rattle.fp_tree.specs.declared.machine.ElementForm.TheVariants as element
use Rattle.fp_tree.specs.declared.machine.TypedName.{TypedName}
use Rattle.fp_names.specs.Named.{elements_are_named, form_is_named}
use Rattle.fp_tables.specs.Sound.{machine_has_names}
use Rattle.fp_tables.specs.declared.kind.Kind.{Kind}
use Rattle.fp_tables.specs.declared.machine.Named.{Named}
use Rattle.fp_tables.specs.declared.machine.Vertex.{Vertex}
use Rattle.fp_machines.specs.Made.{action_in, declared_from, guard_in, is_action, is_guard, is_signal, machine_with, signal_in, vertex_in, vertices_from}
use Rattle.fp_sound_parts.proofs.Declaring.{action_form, action_same, guard_form, guard_same, signal_form, signal_same}
use Rattle.fp_sound_parts.proofs.Vertices.{declared_back, vertex_back}

module _ (es : List BehaviorElement) (are_named : elements_are_named es ≡ true) where
  named_form : (v : ℕ) (e : BehaviorElement) → slice_get es v ≡ Some e → form_is_named e.form ≡ true
  named_form v e h = all_get (λ (e : BehaviorElement). form_is_named e.form) es v e are_named h

  declared_named : (part : ElementForm → Option TypedName) (test : ElementForm → Bool) → ((f : ElementForm) → is_some (part f) ≡ test f)
      → ((f : ElementForm) (t : TypedName) → part f ≡ Some t → form_is_named f ≡ true → is_name t.name.text ≡ true) → (kinds : List (Option Kind))
      → list_all (λ (n : Named). is_name n.name) (declared_from part kinds 0 es) ≡ true
  declared_named part test same names kinds =
      all_items (λ (n : Named). is_name n.name) (declared_from part kinds 0 es)
      (λ k x h.
      let b = declared_back part test same kinds es k x h in
      sym (ap (λ (n : Named). is_name n.name) b.is) ∙ names b.element.form b.of b.has (named_form b.at b.element b.here))

  signal_named : (f : ElementForm) (t : TypedName) → signal_in f ≡ Some t → form_is_named f ≡ true → is_name t.name.text ≡ true
  signal_named f t e h = subst (λ (g : ElementForm). form_is_named g ≡ true) (signal_form f t e) h

  action_named : (f : ElementForm) (t : TypedName) → action_in f ≡ Some t → form_is_named f ≡ true → is_name t.name.text ≡ true
  action_named f t e h = subst (λ (g : ElementForm). form_is_named g ≡ true) (action_form f t e) h

  guard_named : (f : ElementForm) (t : TypedName) → guard_in f ≡ Some t → form_is_named f ≡ true → is_name t.name.text ≡ true
  guard_named f t e h = subst (λ (g : ElementForm). form_is_named g ≡ true) (guard_form f t e) h

  vertex_named : (v : ℕ) (p : Option ℕ) (f : ElementForm) (x : Vertex) → vertex_in es v p f ≡ Some x → form_is_named f ≡ true → is_name x.name ≡ true
  vertex_named v p (element.State n) x e h = sym (ap (λ (y : Vertex). is_name y.name) (same_some e)) ∙ h
  vertex_named v p (element.Choice c) x e h = sym (ap (λ (y : Vertex). is_name y.name) (same_some e)) ∙ h
  vertex_named v p (element.Initial g) x e h = absurd cc
  vertex_named v p (element.Signal t) x e h = absurd cc
  vertex_named v p (element.Action t) x e h = absurd cc
  vertex_named v p (element.Guard t) x e h = absurd cc
  vertex_named v p (element.On o) x e h = absurd cc
  vertex_named v p (element.Entry d) x e h = absurd cc
  vertex_named v p (element.Exit d) x e h = absurd cc

  vertices_named : list_all (λ (v : Vertex). is_name v.name) (vertices_from es 0 es) ≡ true
  vertices_named =
      all_items (λ (v : Vertex). is_name v.name) (vertices_from es 0 es)
      (λ k x h. let b = vertex_back es k x h in vertex_named b.at b.element.parent b.element.form x b.is (named_form b.at b.element b.here))

  pub names_are_names : (name : List ℕ) (kinds : List (Option Kind)) → machine_has_names (machine_with es name kinds) ≡ true
  names_are_names name kinds =
      join _ (list_all (λ (v : Vertex). is_name v.name) (vertices_from es 0 es))
      (join _ (list_all (λ (n : Named). is_name n.name) (declared_from guard_in kinds 0 es))
      (join (list_all (λ (n : Named). is_name n.name) (declared_from signal_in kinds 0 es)) (list_all (λ (n : Named). is_name n.name) (declared_from action_in kinds 0 es))
      (declared_named signal_in is_signal signal_same signal_named kinds) (declared_named action_in is_action action_same action_named kinds))
      (declared_named guard_in is_guard guard_same guard_named kinds))
      vertices_named
