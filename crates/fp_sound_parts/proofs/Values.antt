-- The steps of states, and of the machine, give what is behind them its values.
use Rattle.std.proofs.Common.{◌≡◌, ℕ, suc, ◌<◌, ◌&&◌, true, List, [], ◌∷◌, ◌++◌, length, slice_get, Option, Some, None, refl, sym, ap, subst, ◌∙◌}
use Rattle.std.specs.List.{AllByRecursion, list_all}
use Rattle.std.specs.Option.{option_and_then, option_map, unwrap_or}
use Rattle.std.proofs.lemmas.Option.{slice_get-map, slice_get_within}
use Rattle.fp_base.proofs.Bools.{join}
use Rattle.fp_base.proofs.Lists.{each_before, each_behind}
use Rattle.fp_base.proofs.Options.{same_some, then_some}
use Rattle.fp_base.proofs.Spots.{item_below}
use Rattle.fp_base.proofs.Passing.{all_items}
use Rattle.fp_tree.specs.declared.machine.BehaviorElement.{BehaviorElement}
use Rattle.fp_tree.specs.declared.machine.ElementForm.{ElementForm}
use Rattle.fp_tree.specs.declared.machine.ElementForm.TheVariants as element
use Rattle.fp_tree.specs.declared.machine.OnSignal.{OnSignal}
use Rattle.fp_tree.specs.declared.machine.Transition.{Transition}
use Rattle.fp_tree.specs.declared.machine.Transition.TheVariants as way
use Rattle.fp_tree.specs.declared.name.Name.{Name}
use Rattle.fp_tables.specs.Lists.{if_some}
use Rattle.fp_tables.specs.Machines.{actions_are_given, behind_is_given, guard_is_given, on_is_given, step_is_given}
use Rattle.fp_tables.specs.declared.kind.Kind.{Kind}
use Rattle.fp_tables.specs.declared.kind.TypeDef.{TypeDef}
use Rattle.fp_tables.specs.declared.machine.On.{On}
use Rattle.fp_tables.specs.declared.machine.Step.{Step}
use Rattle.fp_machine_rules.specs.declared.item.Form.{Form}
use Rattle.fp_machine_rules.specs.declared.item.Form.TheVariants as form
use Rattle.fp_machine_rules.specs.declared.item.Target.{Target}
use Rattle.fp_machine_rules.specs.declared.item.Target.TheVariants.{Stays, To}
use Rattle.fp_machine_rules.specs.Forms.{Stands}
use Rattle.fp_machine_rules.specs.Members.{same_place}
use Rattle.fp_machine_rules.specs.Values as values
use Rattle.fp_machine_rules.specs.Values.{Enters, Gives, entered, own}
use Rattle.fp_machines.specs.Layout.{guard_uses_if, signal_use, uses_from, way_uses}
use Rattle.fp_machines.specs.Outline.{number, outline, own_number}
use Rattle.fp_machines.specs.Scopes as scopes
use Rattle.fp_machines.specs.Scopes.{guard_named, signal_named}
use Rattle.fp_machines.specs.Steps.{laid_form, laid_item, target_of, way_target}
use Rattle.fp_machines.specs.Made.{entry_in, entry_of, exit_in, exit_of, guard_meant, guard_number, kind_at, on_with, signal_number, step_of, transitions_of, vertex_number, way_of, on_in}
use Rattle.fp_machines.specs.Numbers.{type_numbers}
use Rattle.fp_machines.specs.Ordered.{AreInOrder}
use Rattle.fp_sound_parts.proofs.Behind.{behind_given}
use Rattle.fp_sound_parts.proofs.Corresponding.{corresponds, goes_to, items, target_is, vertices}
use Rattle.fp_sound_parts.proofs.Counts.{same_parents}
use Rattle.fp_sound_parts.proofs.Declared.{signal_kind}
use Rattle.fp_sound_parts.proofs.BehaviorFitting.{number_if}
use Rattle.fp_sound_parts.proofs.Giving.{Good, IsGivenAt, acts_fit, choices_fit, good_in, goto_fits, guard_fits, machine, numbers}
use Rattle.fp_sound_parts.proofs.Meant.{signal_is}
use Rattle.fp_sound_parts.proofs.Parts.{Has, part_there}
use Rattle.fp_sound_parts.proofs.Reaching.{IsToVertex}
use Rattle.fp_sound_parts.proofs.Signals.{on_at}
use Rattle.fp_sound_parts.proofs.Staying.{IsInitialAt, initial_stands}
use Rattle.fp_sound_parts.proofs.Standing.{to_number}
use Rattle.fp_sound_parts.proofs.Vertices.{item_here}

to_stay : (w : ℕ) → ◌≡◌ {A = Target} Stays (To w) → ⊥
to_stay w e = cc

module _ (es : List BehaviorElement) (types : List TypeDef) (kinds : List (Option Kind)) (name : List ℕ) (order : AreInOrder (outline es)) (each : length kinds ≡ length es)
    (uses : AllByRecursion (Good es types kinds name) (uses_from es (outline es) (numbers es types kinds name) 0 es)) where
  -- a step of an item that gives a value
  step_fits : (given : Option Kind) (v : ℕ) (f : Form) (p : Option ℕ) (t : Target) (s : Step) → Stands (items es) v f p → Gives (items es) (type_numbers types kinds) f (number_if types given)
      → ((w : ℕ) → t ≡ To w → Enters (items es) (type_numbers types kinds) f w) → IsToVertex (items es) (vertices es) (vertex_number es) (corresponds es order) t
      → actions_are_given types (machine es types kinds name) given s.actions ≡ true → s.target ≡ to_number (vertex_number es) t
      → step_is_given types (machine es types kinds name) given s ≡ true
  step_fits given v f p t s stands gives enters vertex acts to =
      join (actions_are_given types (machine es types kinds name) given s.actions)
      (behind_is_given types (machine es types kinds name) given (suc (length (vertices es))) s.target) acts
      (behind_given types (machine es types kinds name) (items es) (type_numbers types kinds) (vertex_number es) (corresponds es order) given (suc (length (vertices es))) t s.target
      (choices_fit es types kinds name uses given) to vertex
      (λ w c e through is. entered is stands gives (enters w e) through))

  -- ---- initial transitions

  enters_initial : (t : Target) (w : ℕ) → t ≡ To w → Enters (items es) (type_numbers types kinds) (form.Initial t) w
  enters_initial t w e = subst (λ (t : Target). Enters (items es) (type_numbers types kinds) (form.Initial t) w) (sym e) values.initial

  pub initial_fits : (p : Option ℕ) (s : Step) → IsInitialAt es p s → step_is_given types (machine es types kinds name) None s ≡ true
  initial_fits p s i =
      let t = target_of es (outline es) p i.go.target in
      let stands = initial_stands es p s i in
      let good = good_in es types kinds name uses i.at i.source (element.Initial i.go) i.here i.form in
      ap (λ (s : Step). step_is_given types (machine es types kinds name) None s) (sym i.is)
      ∙ step_fits None i.at (form.Initial t) p t (step_of es p i.go) stands values.initial (λ w e. enters_initial t w e) (λ w e. target_is es p i.go.target w e)
      (goto_fits es types kinds name None i.at i.source.parent i.go (own stands values.initial) good) (goes_to es p i.go.target)

  -- ---- entries and exits

  acts_of_entry : (p : Option ℕ) (acts : List ℕ) → Has (λ (e : BehaviorElement). same_place p e.parent) (λ (e : BehaviorElement). entry_in es e.form) es acts
      → actions_are_given types (machine es types kinds name) None acts ≡ true
  acts_of_entry p acts h = go h.element.form refl h.gives
    where
      go : (f : ElementForm) → h.element.form ≡ f → entry_in es f ≡ Some acts → actions_are_given types (machine es types kinds name) None acts ≡ true
      go (element.Entry d) is e =
          let stands : Stands (items es) h.at form.Entry h.element.parent =
          record { item = laid_item es (outline es) h.element; here = item_here es h.at h.element h.here; form = ap (λ (f : ElementForm). laid_form es (outline es) h.element.parent f) is; parent = refl } in
          ap (λ (acts : List ℕ). actions_are_given types (machine es types kinds name) None acts) (sym (same_some e))
          ∙ acts_fit es types kinds name None h.at d.actions (own stands values.entry) (good_in es types kinds name uses h.at h.element (element.Entry d) h.here is)
      go (element.State n) is e = absurd cc
      go (element.Choice n) is e = absurd cc
      go (element.Initial n) is e = absurd cc
      go (element.Signal n) is e = absurd cc
      go (element.Action n) is e = absurd cc
      go (element.Guard n) is e = absurd cc
      go (element.On n) is e = absurd cc
      go (element.Exit n) is e = absurd cc

  acts_of_exit : (p : Option ℕ) (acts : List ℕ) → Has (λ (e : BehaviorElement). same_place p e.parent) (λ (e : BehaviorElement). exit_in es e.form) es acts
      → actions_are_given types (machine es types kinds name) None acts ≡ true
  acts_of_exit p acts h = go h.element.form refl h.gives
    where
      go : (f : ElementForm) → h.element.form ≡ f → exit_in es f ≡ Some acts → actions_are_given types (machine es types kinds name) None acts ≡ true
      go (element.Exit d) is e =
          let stands : Stands (items es) h.at form.Exit h.element.parent =
          record { item = laid_item es (outline es) h.element; here = item_here es h.at h.element h.here; form = ap (λ (f : ElementForm). laid_form es (outline es) h.element.parent f) is; parent = refl } in
          ap (λ (acts : List ℕ). actions_are_given types (machine es types kinds name) None acts) (sym (same_some e))
          ∙ acts_fit es types kinds name None h.at d.actions (own stands values.exit) (good_in es types kinds name uses h.at h.element (element.Exit d) h.here is)
      go (element.State n) is e = absurd cc
      go (element.Choice n) is e = absurd cc
      go (element.Initial n) is e = absurd cc
      go (element.Signal n) is e = absurd cc
      go (element.Action n) is e = absurd cc
      go (element.Guard n) is e = absurd cc
      go (element.On n) is e = absurd cc
      go (element.Entry n) is e = absurd cc

  acts_or_none : (o : Option (List ℕ)) → ((acts : List ℕ) → o ≡ Some acts → actions_are_given types (machine es types kinds name) None acts ≡ true)
      → actions_are_given types (machine es types kinds name) None (unwrap_or o []) ≡ true
  acts_or_none None h = refl
  acts_or_none (Some acts) h = h acts refl

  pub entry_fits : (p : Option ℕ) → actions_are_given types (machine es types kinds name) None (entry_of es p) ≡ true
  entry_fits p =
      acts_or_none _
      (λ acts h. acts_of_entry p acts (part_there (λ (e : BehaviorElement). same_place p e.parent) (λ (e : BehaviorElement). entry_in es e.form) es 0 acts h))

  pub exit_fits : (p : Option ℕ) → actions_are_given types (machine es types kinds name) None (exit_of es p) ≡ true
  exit_fits p =
      acts_or_none _
      (λ acts h. acts_of_exit p acts (part_there (λ (e : BehaviorElement). same_place p e.parent) (λ (e : BehaviorElement). exit_in es e.form) es 0 acts h))

  -- ---- transitions

  -- the value of a signal
  value_there : (k : ℕ) (e : BehaviorElement) → slice_get es k ≡ Some e → slice_get (type_numbers types kinds) k ≡ Some (number_if types (kind_at kinds k))
  value_there k e h =
      let below = slice_get_within es k e h in
      let o = item_below kinds k (subst (λ (n : ℕ). k < n) (sym each) below) in
      slice_get-map (number_if types) kinds k
      ∙ (ap (option_map (number_if types)) o.1 ∙ ap (λ (o : Option (Option Kind)). Some (number_if types (option_and_then (λ (p : Option Kind). p) o))) (sym o.1))

  meant_there : (s : Name) (k : ℕ) → signal_named es (outline es) s ≡ Some k → scopes.signal_meant (outline es) (own_number es s.text) ≡ Some k
  meant_there s k h =
      let t = then_some (scopes.signal_meant (outline es)) (number es s.text) k h in
      ap (λ (o : Option ℕ). scopes.signal_meant (outline es) (unwrap_or o 0)) t.1 ∙ t.2

  abbrev on_here : Option ℕ → OnSignal → ℕ → Form
  on_here p o k = form.On (own_number es o.signal.text) (Some k) (way_target es (outline es) p o.transition)

  on_stands : (p : Option ℕ) (v : ℕ) (e : BehaviorElement) (o : OnSignal) (k : ℕ) → slice_get es v ≡ Some e → e.form ≡ element.On o → e.parent ≡ p
      → signal_named es (outline es) o.signal ≡ Some k → Stands (items es) v (on_here p o k) p
  on_stands p v e o k h f q m = record {
    item = laid_item es (outline es) e;
    here = item_here es v e h;
    form =
        ap (λ (f : ElementForm). laid_form es (outline es) e.parent f) f
        ∙ (ap (λ (q : Option ℕ). laid_form es (outline es) q (element.On o)) q
        ∙ ap (λ (means : Option ℕ). form.On (own_number es o.signal.text) means (way_target es (outline es) p o.transition)) (meant_there o.signal k m));
    parent = q;
  }

  enters_on : (n : ℕ) (means : Option ℕ) (t : Target) (w : ℕ) → t ≡ To w → Enters (items es) (type_numbers types kinds) (form.On n means t) w
  enters_on n means t w e = subst (λ (t : Target). Enters (items es) (type_numbers types kinds) (form.On n means t) w) (sym e) values.on

  way_fits : (given : Option Kind) (p : Option ℕ) (v : ℕ) (o : OnSignal) (k : ℕ) → Stands (items es) v (on_here p o k) p
      → Gives (items es) (type_numbers types kinds) (on_here p o k) (number_if types given)
      → AllByRecursion (Good es types kinds name) (way_uses es (outline es) (type_numbers types kinds) v p o.transition)
      → step_is_given types (machine es types kinds name) given (way_of es p o.transition) ≡ true
  way_fits given p v o k stands gives good =
      step_fits given v (on_here p o k) p (way_target es (outline es) p o.transition) (way_of es p o.transition) stands gives
      (λ w e. enters_on (own_number es o.signal.text) (Some k) (way_target es (outline es) p o.transition) w e)
      (leads o.transition) (acts o.transition good) (goes o.transition)
    where
      leads : (t : Transition) → IsToVertex (items es) (vertices es) (vertex_number es) (corresponds es order) (way_target es (outline es) p t)
      leads (way.Goto g) w e = target_is es p g.target w e
      leads (way.Do d) w e = absurd (to_stay w e)

      acts : (t : Transition) → AllByRecursion (Good es types kinds name) (way_uses es (outline es) (type_numbers types kinds) v p t)
          → actions_are_given types (machine es types kinds name) given (way_of es p t).actions ≡ true
      acts (way.Goto g) h = goto_fits es types kinds name given v p g (own stands gives) h
      acts (way.Do d) h = acts_fit es types kinds name given v d.actions (own stands gives) h

      goes : (t : Transition) → (way_of es p t).target ≡ to_number (vertex_number es) (way_target es (outline es) p t)
      goes (way.Goto g) = goes_to es p g.target
      goes (way.Do d) = refl

  guard_if_fits : (given : Option Kind) (v : ℕ) (o : Option Name) → IsGivenAt es types kinds name v given
      → AllByRecursion (Good es types kinds name) (guard_uses_if es (outline es) (type_numbers types kinds) v o)
      → if_some (guard_is_given types (machine es types kinds name) given) (option_and_then (guard_meant es) o) ≡ true
  guard_if_fits given v None is h = refl
  guard_if_fits given v (Some g) is h = go (guard_named es (outline es) g) refl
    where
      go : (o : Option ℕ) → guard_named es (outline es) g ≡ o → if_some (guard_is_given types (machine es types kinds name) given) (guard_meant es g) ≡ true
      go None e = ap (λ (o : Option ℕ). if_some (guard_is_given types (machine es types kinds name) given) (option_map (guard_number es) o)) e
      go (Some k) e =
          ap (λ (o : Option ℕ). if_some (guard_is_given types (machine es types kinds name) given) (option_map (guard_number es) o)) e
          ∙ guard_fits es types kinds name given v g k e is h.0

  on_fits : (p : Option ℕ) (v : ℕ) (e : BehaviorElement) (o : OnSignal) (k : ℕ) → slice_get es v ≡ Some e → e.form ≡ element.On o → e.parent ≡ p
      → signal_named es (outline es) o.signal ≡ Some k → on_is_given types (machine es types kinds name) (on_with es p o (signal_number es k)) ≡ true
  on_fits p v e o k h f q m =
      let d = signal_is es o.signal k m in
      let given = kind_at kinds k in
      let stands = on_stands p v e o k h f q m in
      let gives : Gives (items es) (type_numbers types kinds) (on_here p o k) (number_if types given) = values.on (value_there k d.element d.here) in
      let signal = signal_use es (outline es) v o.signal ∷ [] in
      let guards = guard_uses_if es (outline es) (type_numbers types kinds) v o.guard in
      let ways = way_uses es (outline es) (type_numbers types kinds) v p o.transition in
      let good =
      subst (λ (q : Option ℕ). AllByRecursion (Good es types kinds name) (signal ++ guards ++ way_uses es (outline es) (type_numbers types kinds) v q o.transition)) q
      (good_in es types kinds name uses v e (element.On o) h f) in
      ap (λ (g : Option Kind). if_some (guard_is_given types (machine es types kinds name) g) (option_and_then (guard_meant es) o.guard) && step_is_given types (machine es types kinds name) g (way_of es p o.transition))
      (signal_kind es kinds types name o.signal k m)
      ∙ join (if_some (guard_is_given types (machine es types kinds name) given) (option_and_then (guard_meant es) o.guard))
      (step_is_given types (machine es types kinds name) given (way_of es p o.transition))
      (guard_if_fits given v o.guard (own stands gives)
      (each_behind (Good es types kinds name) signal guards (each_before (Good es types kinds name) (signal ++ guards) ways good)))
      (way_fits given p v o k stands gives (each_behind (Good es types kinds name) (signal ++ guards) ways good))

  pub transitions_fit : (p : Option ℕ) → list_all (on_is_given types (machine es types kinds name)) (transitions_of es p) ≡ true
  transitions_fit p = all_items (on_is_given types (machine es types kinds name)) (transitions_of es p) one
    where
      one : (k : ℕ) (y : On) → slice_get (transitions_of es p) k ≡ Some y → on_is_given types (machine es types kinds name) y ≡ true
      one k y h =
          let x = part_there (λ (e : BehaviorElement). same_place p e.parent) (λ (e : BehaviorElement). on_in es p e.form) es k y h in
          let o = on_at es p x.element y x.gives in
          ap (on_is_given types (machine es types kinds name)) (sym o.is)
          ∙ on_fits p x.at x.element o.on o.signal x.here o.form (same_parents p x.element.parent x.passes) o.meant
