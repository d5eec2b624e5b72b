-- Where all places in a machine stand behind that of its name, this stands before what is laid out.
use Rattle.std.proofs.Common.{◌≡◌, ℕ, ◌+◌, ◌<◌, ◌⊎◌, true, ◌&&◌, ◌||◌, ◌==◌, List, [], ◌∷◌, ◌++◌, map, slice_get, Option, Some, None, sym, subst, ◌∙◌, inl, inr}
use Rattle.std.specs.Prelude.{nat_lt}
use Rattle.std.specs.List.{AllByRecursion as Each, list_all}
use Rattle.std.proofs.lemmas.Bool.{eqb-true, ltb-true}
use Rattle.std.proofs.lemmas.Option.{slice_get-map}
use Rattle.fp_base.specs.declared.place.Place.{Place}
use Rattle.fp_base.proofs.Bools.{both, or_cases}
use Rattle.fp_base.proofs.Lists.{all_get, each_append, of_item}
use Rattle.fp_base.proofs.Options.{mapped_some}
use Rattle.fp_tree.specs.declared.name.Name.{Name}
use Rattle.fp_tree.specs.declared.machine.ActionUse.{ActionUse}
use Rattle.fp_tree.specs.declared.machine.BehaviorElement.{BehaviorElement}
use Rattle.fp_tree.specs.declared.machine.Choice.{Choice}
use Rattle.fp_tree.specs.declared.machine.Do.{Do}
use Rattle.fp_tree.specs.declared.machine.ElementForm.{ElementForm}
use Rattle.fp_tree.specs.declared.machine.ElementForm.TheVariants as element
use Rattle.fp_tree.specs.declared.machine.Goto.{Goto}
use Rattle.fp_tree.specs.declared.machine.OnSignal.{OnSignal}
use Rattle.fp_tree.specs.declared.machine.Transition.{Transition}
use Rattle.fp_tree.specs.declared.machine.Transition.TheVariants as way
use Rattle.fp_machine_rules.specs.declared.item.Item.{Item}
use Rattle.fp_machine_rules.specs.declared.item.Use.{Use}
use Rattle.fp_machine_rules.specs.Broken.{IsBefore, StandsFirst}
use Rattle.fp_machines.specs.Behind.{actions_if_behind, choice_behind, element_behind, elements_behind, form_behind, goto_behind, guard_if_behind, is_before, on_behind, way_behind}
use Rattle.fp_machines.specs.Layout.{action_use, action_uses_if, choice_uses, goto_uses, guard_use, guard_uses_if, laid, on_uses, signal_use, target_use, uses_from, uses_in, way_uses}
use Rattle.fp_machines.specs.Outline.{outline, place_in}
use Rattle.fp_machines.specs.Steps.{laid_item, laid_items}

before_from_test : (p q : Place) → is_before p q ≡ true → IsBefore p q
before_from_test p q t = go (or_cases (nat_lt p.file q.file) _ t)
  where
    column : ((p.line == q.line) && nat_lt p.column q.column) ≡ true → (p.line ≡ q.line) × (p.column < q.column)
    column h = let parts = both (p.line == q.line) _ h in (eqb-true _ _ parts.0, ltb-true _ _ parts.1)

    line : (nat_lt p.line q.line ≡ true) ⊎ (((p.line == q.line) && nat_lt p.column q.column) ≡ true) → (p.line < q.line) ⊎ ((p.line ≡ q.line) × (p.column < q.column))
    line (inl h) = inl (ltb-true _ _ h)
    line (inr h) = inr (column h)

    go : (nat_lt p.file q.file ≡ true) ⊎ (((p.file == q.file) && (nat_lt p.line q.line || ((p.line == q.line) && nat_lt p.column q.column))) ≡ true) → IsBefore p q
    go (inl h) = inl (ltb-true _ _ h)
    go (inr h) = let parts = both (p.file == q.file) _ h in inr (eqb-true _ _ parts.0, line (or_cases (nat_lt p.line q.line) _ parts.1))

module _ (p : Place) where
  abbrev Behind : Use → Type 0
  Behind u = IsBefore p u.place

  abbrev AreBehind : List Use → Type 0
  AreBehind us = Each Behind us

  one_behind : (u : Use) → is_before p u.place ≡ true → AreBehind (u ∷ [])
  one_behind u h = (before_from_test p u.place h, tt)

  module _ (es : List BehaviorElement) (items : List Item) (types : List (Option ℕ)) (at : ℕ) where
    actions_stand : (uses : List ActionUse) → list_all (λ (a : ActionUse). is_before p a.name.at.first) uses ≡ true → AreBehind (map (action_use es items types at) uses)
    actions_stand [] h = tt
    actions_stand (a ∷ uses) h = let parts = both (is_before p a.name.at.first) _ h in (before_from_test p a.name.at.first parts.0, actions_stand uses parts.1)

    optional_stand : (o : Option Do) → actions_if_behind p o ≡ true → AreBehind (action_uses_if es items types at o)
    optional_stand None h = tt
    optional_stand (Some d) h = actions_stand d.actions h

    module _ (in_state : Option ℕ) where
      goto_stands : (g : Goto) → goto_behind p g ≡ true → AreBehind (goto_uses es items types at in_state g)
      goto_stands g h =
          let parts = both (actions_if_behind p g.actions) _ h in
          each_append Behind (action_uses_if es items types at g.actions) (target_use es items at in_state g.target ∷ []) (optional_stand g.actions parts.0) (before_from_test p g.target.at.first parts.1, tt)

      way_stands : (t : Transition) → way_behind p t ≡ true → AreBehind (way_uses es items types at in_state t)
      way_stands (way.Goto g) h = goto_stands g h
      way_stands (way.Do d) h = actions_stand d.actions h

      guard_stands : (o : Option Name) → guard_if_behind p o ≡ true → AreBehind (guard_uses_if es items types at o)
      guard_stands None h = tt
      guard_stands (Some g) h = (before_from_test p g.at.first h, tt)

      choice_stands : (c : Choice) → choice_behind p c ≡ true → AreBehind (choice_uses es items types at in_state c)
      choice_stands c h =
          let outer = both (is_before p c.guard.at.first && goto_behind p c.met) _ h in
          let inner = both (is_before p c.guard.at.first) _ outer.0 in
          let guard : AreBehind (guard_use es items types at c.guard ∷ []) = (before_from_test p c.guard.at.first inner.0, tt) in
          each_append Behind ((guard_use es items types at c.guard ∷ []) ++ goto_uses es items types at in_state c.met) (goto_uses es items types at in_state c.unmet)
          (each_append Behind (guard_use es items types at c.guard ∷ []) (goto_uses es items types at in_state c.met) guard (goto_stands c.met inner.1))
          (goto_stands c.unmet outer.1)

      on_stands : (o : OnSignal) → on_behind p o ≡ true → AreBehind (on_uses es items types at in_state o)
      on_stands o h =
          let outer = both (is_before p o.signal.at.first && guard_if_behind p o.guard) _ h in
          let inner = both (is_before p o.signal.at.first) _ outer.0 in
          let signal : AreBehind (signal_use es items at o.signal ∷ []) = (before_from_test p o.signal.at.first inner.0, tt) in
          each_append Behind ((signal_use es items at o.signal ∷ []) ++ guard_uses_if es items types at o.guard) (way_uses es items types at in_state o.transition)
          (each_append Behind (signal_use es items at o.signal ∷ []) (guard_uses_if es items types at o.guard) signal (guard_stands o.guard inner.1))
          (way_stands o.transition outer.1)

      form_stands : (f : ElementForm) → form_behind p f ≡ true → AreBehind (uses_in es items types at in_state f)
      form_stands (element.State n) h = tt
      form_stands (element.Choice c) h = choice_stands c h
      form_stands (element.Initial g) h = goto_stands g h
      form_stands (element.Signal t) h = tt
      form_stands (element.Action t) h = tt
      form_stands (element.Guard t) h = tt
      form_stands (element.On o) h = on_stands o h
      form_stands (element.Entry d) h = actions_stand d.actions h
      form_stands (element.Exit d) h = actions_stand d.actions h

  uses_stand : (es : List BehaviorElement) (items : List Item) (types : List (Option ℕ)) (at : ℕ) (more : List BehaviorElement) → elements_behind p more ≡ true
      → AreBehind (uses_from es items types at more)
  uses_stand es items types at [] h = tt
  uses_stand es items types at (e ∷ more) h =
      let parts = both (element_behind p e) _ h in
      each_append Behind (uses_in es items types at e.parent e.form) _
      (form_stands es items types at e.parent e.form (both (is_before p (place_in e.at e.form)) _ parts.0).1)
      (uses_stand es items types (at + 1) more parts.1)

  pub stands_first : (es : List BehaviorElement) (types : List (Option ℕ)) → elements_behind p es ≡ true → StandsFirst (laid p es types)
  stands_first es types h = record { items = items; uses = λ k u here. of_item Behind (uses_from es (outline es) types 0 es) k u (uses_stand es (outline es) types 0 es h) here }
    where
      items : (k : ℕ) (x : Item) → slice_get (laid_items es (outline es)) k ≡ Some x → IsBefore p x.place
      items k x here =
          let m = mapped_some (laid_item es (outline es)) (slice_get es k) x (sym (slice_get-map (laid_item es (outline es)) es k) ∙ here) in
          subst (λ (y : Item). IsBefore p y.place) m.2
          (before_from_test p (place_in m.0.at m.0.form) (both (is_before p (place_in m.0.at m.0.form)) _ (all_get (element_behind p) es k m.0 h m.1)).0)
