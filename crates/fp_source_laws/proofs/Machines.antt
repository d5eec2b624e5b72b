-- What a state machine breaks is broken at its name, or at a place in one of its elements.
use Rattle.std.proofs.Common.{ℕ, ◌+◌, List, [], ◌∷◌, map, Option, Some, None, inl, inr}
use Rattle.std.specs.List.{AllByRecursion as Each}
use Rattle.fp_base.specs.declared.place.Place.{Place}
use Rattle.fp_base.specs.declared.place.Span.{Span}
use Rattle.fp_base.specs.declared.refusal.Refusal.{Refusal}
use Rattle.fp_base.specs.declared.rule.Rule.{Rule}
use Rattle.fp_base.proofs.Lists.{each_append, each_before, each_behind, each_mapped, each_weaker, of_item}
use Rattle.fp_tree.specs.declared.name.Name.{Name}
use Rattle.fp_tree.specs.declared.machine.ActionUse.{ActionUse}
use Rattle.fp_tree.specs.declared.machine.BehaviorElement.{BehaviorElement}
use Rattle.fp_tree.specs.declared.machine.Choice.{Choice}
use Rattle.fp_tree.specs.declared.machine.Do.{Do}
use Rattle.fp_tree.specs.declared.machine.ElementForm.{ElementForm}
use Rattle.fp_tree.specs.declared.machine.ElementForm.TheVariants as element
use Rattle.fp_tree.specs.declared.machine.Goto.{Goto}
use Rattle.fp_tree.specs.declared.machine.OnSignal.{OnSignal}
use Rattle.fp_tree.specs.declared.machine.Transition.{Transition}
use Rattle.fp_tree.specs.declared.machine.Transition.TheVariants as way
use Rattle.fp_meaning.specs.Sites.{in_optional}
use Rattle.fp_machine_rules.specs.declared.item.Item.{Item}
use Rattle.fp_machine_rules.specs.declared.item.Use.{Use}
use Rattle.fp_machine_rules.specs.Broken.{AtEach, AtItems, BrokenAsWhole, BrokenItems, BrokenUses, BrokenWays, MachineBroken, RepeatedItems, RepeatedNames}
use Rattle.fp_machines.specs.Layout.{action_use, action_uses_if, choice_uses, goto_uses, guard_uses_if, laid, on_uses, target_use, uses_from, uses_in, way_uses}
use Rattle.fp_machines.specs.Outline.{outline, place_in}
use Rattle.fp_machines.specs.Steps.{laid_item, laid_items}
use Rattle.fp_places.specs.Places.{places_in_choice, places_in_do, places_in_element, places_in_element_form, places_in_goto, places_in_on_signal, places_in_transition, places_of_guard}
use Rattle.fp_source_laws.proofs.Parted.{same_place}

module _ (G : Place → Type 0) where
  abbrev pub ElementStands : BehaviorElement → Type 0
  ElementStands e = Each G (places_in_element e)

  abbrev ItemStands : Item → Type 0
  ItemStands x = G x.place

  abbrev UseStands : Use → Type 0
  UseStands u = G u.place

  -- ---- what is laid out stands in its element

  item_stands : (at : Span) (f : ElementForm) → Each G (places_in_element_form at f) → G (place_in at f)
  item_stands at (element.State n) h = h.0
  item_stands at (element.Choice c) h = h.0
  item_stands at (element.Initial g) h = h.0
  item_stands at (element.Signal t) h = h.0
  item_stands at (element.Action t) h = h.0
  item_stands at (element.Guard t) h = h.0
  item_stands at (element.On o) h = h.0
  item_stands at (element.Entry d) h = h.0
  item_stands at (element.Exit d) h = h.0

  items_stand : (es : List BehaviorElement) → Each ElementStands es → Each ItemStands (laid_items es (outline es))
  items_stand es h =
      each_mapped ItemStands (laid_item es (outline es)) es
      (each_weaker ElementStands (λ (e : BehaviorElement). G (place_in e.at e.form)) (λ e k. item_stands e.at e.form k) es h)

  module _ (es : List BehaviorElement) (items : List Item) (types : List (Option ℕ)) (at : ℕ) where
    actions_stand : (uses : List ActionUse) → Each G (map (λ (a : ActionUse). a.name.at.first) uses) → Each UseStands (map (action_use es items types at) uses)
    actions_stand [] h = tt
    actions_stand (a ∷ uses) h = (h.0, actions_stand uses h.1)

    optional_stand : (o : Option Do) → Each G (in_optional places_in_do o) → Each UseStands (action_uses_if es items types at o)
    optional_stand None h = tt
    optional_stand (Some d) h = actions_stand d.actions h

    guard_stands : (o : Option Name) → Each G (places_of_guard o) → Each UseStands (guard_uses_if es items types at o)
    guard_stands None h = tt
    guard_stands (Some g) h = h

    module _ (in_state : Option ℕ) where
      goto_stands : (g : Goto) → Each G (places_in_goto g) → Each UseStands (goto_uses es items types at in_state g)
      goto_stands g h =
          each_append UseStands (action_uses_if es items types at g.actions) (target_use es items at in_state g.target ∷ [])
          (optional_stand g.actions (each_before G (in_optional places_in_do g.actions) (g.target.at.first ∷ []) h))
          (each_behind G (in_optional places_in_do g.actions) (g.target.at.first ∷ []) h)

      way_stands : (t : Transition) → Each G (places_in_transition t) → Each UseStands (way_uses es items types at in_state t)
      way_stands (way.Goto g) h = goto_stands g h
      way_stands (way.Do d) h = actions_stand d.actions h

      choice_stands : (c : Choice) → Each G (places_in_choice c) → Each UseStands (choice_uses es items types at in_state c)
      choice_stands c h = (
        h.1.0,
        each_append UseStands (goto_uses es items types at in_state c.met) (goto_uses es items types at in_state c.unmet)
            (goto_stands c.met (each_before G (places_in_goto c.met) (places_in_goto c.unmet) h.1.1))
            (goto_stands c.unmet (each_behind G (places_in_goto c.met) (places_in_goto c.unmet) h.1.1)),
      )

      on_stands : (o : OnSignal) → Each G (places_in_on_signal o) → Each UseStands (on_uses es items types at in_state o)
      on_stands o h = (
        h.0,
        each_append UseStands (guard_uses_if es items types at o.guard) (way_uses es items types at in_state o.transition)
            (guard_stands o.guard (each_before G (places_of_guard o.guard) (places_in_transition o.transition) h.1))
            (way_stands o.transition (each_behind G (places_of_guard o.guard) (places_in_transition o.transition) h.1)),
      )

      form_stands : (begins : Span) (f : ElementForm) → Each G (places_in_element_form begins f) → Each UseStands (uses_in es items types at in_state f)
      form_stands begins (element.Choice c) h = choice_stands c h
      form_stands begins (element.Initial g) h = goto_stands g h.1
      form_stands begins (element.On o) h = on_stands o h.1
      form_stands begins (element.Entry d) h = actions_stand d.actions h.1
      form_stands begins (element.Exit d) h = actions_stand d.actions h.1
      form_stands begins f h = tt

  uses_stand : (es : List BehaviorElement) (items : List Item) (types : List (Option ℕ)) (at : ℕ) (more : List BehaviorElement) → Each ElementStands more
      → Each UseStands (uses_from es items types at more)
  uses_stand es items types at [] h = tt
  uses_stand es items types at (e ∷ more) h =
      each_append UseStands (uses_in es items types at e.parent e.form) (uses_from es items types (at + 1) more) (form_stands es items types at e.parent e.at e.form h.0)
      (uses_stand es items types (at + 1) more h.1)

  -- ---- and rules are broken there

  each_placed : {A : Type 0} (rule : Rule) (place : A → Place) (xs : List A) (P : ℕ → Type 0) (f : Refusal) → Each (λ (x : A). G (place x)) xs → AtEach rule place xs P f → G f.place
  each_placed {A = A} rule place xs P f h (k, x, at, b) = same_place G f _ b.0 (of_item (λ (y : A). G (place y)) xs k x h at)

  module _ (items : List Item) (f : Refusal) (h : Each ItemStands items) where
    at_some_item : (rule : Rule) (P : ℕ → Type 0) → AtItems rule items P f → G f.place
    at_some_item rule P b = each_placed rule (λ (x : Item). x.place) items P f h b

    ways_placed : BrokenWays items f → G f.place
    ways_placed (inl b) = at_some_item _ _ b
    ways_placed (inr (inl b)) = at_some_item _ _ b
    ways_placed (inr (inr (inl b))) = at_some_item _ _ b
    ways_placed (inr (inr (inr b))) = at_some_item _ _ b

    repeated_placed : RepeatedItems items f → G f.place
    repeated_placed (inl b) = at_some_item _ _ b
    repeated_placed (inr (inl b)) = at_some_item _ _ b
    repeated_placed (inr (inr (inl b))) = at_some_item _ _ b
    repeated_placed (inr (inr (inr b))) = at_some_item _ _ b

    names_placed : RepeatedNames items f → G f.place
    names_placed (inl b) = at_some_item _ _ b
    names_placed (inr (inl b)) = at_some_item _ _ b
    names_placed (inr (inr b)) = at_some_item _ _ b

    items_placed : BrokenItems items f → G f.place
    items_placed (inl b) = ways_placed b
    items_placed (inr (inl b)) = repeated_placed b
    items_placed (inr (inr b)) = names_placed b

  uses_placed : (items : List Item) (types : List (Option ℕ)) (uses : List Use) (f : Refusal) → Each UseStands uses → BrokenUses items types uses f → G f.place
  uses_placed items types uses f h (inl b) = each_placed _ (λ (u : Use). u.place) uses _ f h b
  uses_placed items types uses f h (inr b) = each_placed _ (λ (u : Use). u.place) uses _ f h b

  whole_placed : (place : Place) (items : List Item) (f : Refusal) → G place → BrokenAsWhole place items f → G f.place
  whole_placed place items f here (inl b) = same_place G f _ b.0 here
  whole_placed place items f here (inr b) = same_place G f _ b.0 here

  -- of a machine whose name stands at a place
  pub machine_placed : (place : Place) (es : List BehaviorElement) (types : List (Option ℕ)) (f : Refusal) → G place → Each ElementStands es → MachineBroken (laid place es types) f → G f.place
  machine_placed place es types f here h (inl b) = whole_placed place (laid_items es (outline es)) f here b
  machine_placed place es types f here h (inr (inl b)) = items_placed (laid_items es (outline es)) f (items_stand es h) b
  machine_placed place es types f here h (inr (inr b)) =
      uses_placed (laid_items es (outline es)) types (uses_from es (outline es) types 0 es) f (uses_stand es (outline es) types 0 es h) b
