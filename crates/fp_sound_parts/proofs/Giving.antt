-- What actions and guards of an element take, they are given where the element is given it.
use Rattle.std.proofs.Common.{◌≡◌, ℕ, true, List, [], ◌∷◌, ◌++◌, map, slice_get, Option, Some, None, refl, ap, subst, ◌∙◌, arith}
use Rattle.std.specs.List.{AllByRecursion, cons_option, filter_map}
use Rattle.std.specs.Option.{option_map, unwrap_or}
use Rattle.fp_base.proofs.Bools.{join}
use Rattle.fp_base.proofs.Lists.{each_before, each_behind}
use Rattle.fp_base.proofs.Options.{one_some}
use Rattle.fp_tree.specs.declared.machine.ActionUse.{ActionUse}
use Rattle.fp_tree.specs.declared.machine.BehaviorElement.{BehaviorElement}
use Rattle.fp_tree.specs.declared.machine.Do.{Do}
use Rattle.fp_tree.specs.declared.machine.ElementForm.{ElementForm}
use Rattle.fp_tree.specs.declared.machine.ElementForm.TheVariants as element
use Rattle.fp_tree.specs.declared.machine.Goto.{Goto}
use Rattle.fp_tree.specs.declared.name.Name.{Name}
use Rattle.fp_tables.specs.Machines.{actions_are_given, guard_is_given, is_given, node_at}
use Rattle.fp_tables.specs.declared.kind.Kind.{Kind}
use Rattle.fp_tables.specs.declared.kind.TypeDef.{TypeDef}
use Rattle.fp_tables.specs.declared.machine.Machine.{Machine}
use Rattle.fp_tables.specs.declared.machine.Node.{Node}
use Rattle.fp_tables.specs.declared.machine.Node.TheVariants as node
use Rattle.fp_tables.specs.declared.machine.Step.{Step}
use Rattle.fp_machine_rules.specs.declared.item.Form.TheVariants as form
use Rattle.fp_machine_rules.specs.declared.item.Target.{Target}
use Rattle.fp_machine_rules.specs.declared.item.Use.{Use}
use Rattle.fp_machine_rules.specs.Forms.{Stands}
use Rattle.fp_machine_rules.specs.Values.{IsGiven}
use Rattle.fp_machines.specs.Layout.{action_use, action_uses_if, goto_uses, guard_use, takes, target_use, uses_from, uses_in}
use Rattle.fp_machines.specs.Outline.{outline}
use Rattle.fp_machines.specs.Scopes.{action_named, guard_named}
use Rattle.fp_machines.specs.Made.{action_meant, action_number, actions_if, choice_node, guard_number, machine_with, vertex_number}
use Rattle.fp_machines.specs.Numbers.{type_numbers}
use Rattle.fp_sound_parts.proofs.Behind.{ChoiceFits}
use Rattle.fp_sound_parts.proofs.Corresponding.{choice_at, choice_node_there, items, vertices}
use Rattle.fp_sound_parts.proofs.Declared.{action_declared, guard_declared}
use Rattle.fp_sound_parts.proofs.BehaviorFitting.{number_if}
use Rattle.fp_sound_parts.proofs.Uses.{IsGoodUse, use_fits, uses_at}

abbrev guard_in_node : Node → ℕ
guard_in_node (node.State i en ex on) = 0
guard_in_node (node.Choice g a b) = g

abbrev met_in_node : Step → Node → Step
met_in_node s (node.State i en ex on) = s
met_in_node s (node.Choice g a b) = a

abbrev unmet_in_node : Step → Node → Step
unmet_in_node s (node.State i en ex on) = s
unmet_in_node s (node.Choice g a b) = b

module _ (es : List BehaviorElement) (types : List TypeDef) (kinds : List (Option Kind)) (name : List ℕ) where
  abbrev pub numbers : List (Option ℕ)
  numbers = type_numbers types kinds

  abbrev pub machine : Machine
  machine = machine_with es name kinds

  abbrev pub Good : Use → Type 0
  Good = IsGoodUse (items es) (type_numbers types kinds)

  -- the value is given in the item at a position
  abbrev pub IsGivenAt : ℕ → Option Kind → Type 0
  IsGivenAt v given = IsGiven (items es) (type_numbers types kinds) v (number_if types given)

  pub acts_fit : (given : Option Kind) (v : ℕ) (acts : List ActionUse) → IsGivenAt v given → AllByRecursion Good (map (action_use es (outline es) numbers v) acts)
      → actions_are_given types machine given (filter_map (action_meant es) acts) ≡ true
  acts_fit given v [] is h = refl
  acts_fit given v (a ∷ acts) is h = go (action_named es (outline es) a.name) refl (acts_fit given v acts is h.1)
    where
      go : (o : Option ℕ) → action_named es (outline es) a.name ≡ o → actions_are_given types machine given (filter_map (action_meant es) acts) ≡ true
          → actions_are_given types machine given (filter_map (action_meant es) (a ∷ acts)) ≡ true
      go None e rest =
          ap (λ (o : Option ℕ). actions_are_given types machine given (cons_option (option_map (action_number es) o) (filter_map (action_meant es) acts))) e ∙ rest
      go (Some k) e rest =
          ap (λ (o : Option ℕ). actions_are_given types machine given (cons_option (option_map (action_number es) o) (filter_map (action_meant es) acts))) e
          ∙ join (is_given types machine given (slice_get machine.actions (action_number es k))) (actions_are_given types machine given (filter_map (action_meant es) acts))
          (use_fits types kinds machine (items es) given (action_use es (outline es) numbers v a) k (action_number es k) machine.actions (ap (takes numbers) e) h.0 is
          (action_declared es kinds a.name k e))
          rest

  pub acts_fit_if : (given : Option Kind) (v : ℕ) (o : Option Do) → IsGivenAt v given → AllByRecursion Good (action_uses_if es (outline es) numbers v o)
      → actions_are_given types machine given (actions_if es o) ≡ true
  acts_fit_if given v None is h = refl
  acts_fit_if given v (Some d) is h = acts_fit given v d.actions is h

  pub goto_fits : (given : Option Kind) (v : ℕ) (p : Option ℕ) (g : Goto) → IsGivenAt v given → AllByRecursion Good (goto_uses es (outline es) numbers v p g)
      → actions_are_given types machine given (actions_if es g.actions) ≡ true
  goto_fits given v p g is h =
      acts_fit_if given v g.actions is (each_before Good (action_uses_if es (outline es) numbers v g.actions) (target_use es (outline es) v p g.target ∷ []) h)

  pub guard_fits : (given : Option Kind) (v : ℕ) (g : Name) (k : ℕ) → guard_named es (outline es) g ≡ Some k → IsGivenAt v given → Good (guard_use es (outline es) numbers v g)
      → guard_is_given types machine given (guard_number es k) ≡ true
  guard_fits given v g k e is h =
      use_fits types kinds machine (items es) given (guard_use es (outline es) numbers v g) k (guard_number es k) machine.guards (ap (takes numbers) e) h is
      (guard_declared es kinds g k e)

  -- a guard that means something
  pub guard_there : (v : ℕ) (g : Name) → Good (guard_use es (outline es) numbers v g) → (k : ℕ) × (guard_named es (outline es) g ≡ Some k)
  guard_there v g h = go (guard_named es (outline es) g) refl
    where
      go : (o : Option ℕ) → guard_named es (outline es) g ≡ o → (k : ℕ) × (guard_named es (outline es) g ≡ Some k)
      go None e = absurd (h.meant (ap (takes numbers) e))
      go (Some k) e = (k, e)

  module _ (uses : AllByRecursion Good (uses_from es (outline es) numbers 0 es)) where
    pub good_in : (v : ℕ) (e : BehaviorElement) (f : ElementForm) → slice_get es v ≡ Some e → e.form ≡ f → AllByRecursion Good (uses_in es (outline es) numbers v e.parent f)
    good_in v e f h is =
        subst (λ (f : ElementForm). AllByRecursion Good (uses_in es (outline es) numbers v e.parent f)) is
        (uses_at Good es (outline es) numbers 0 es v v e uses h (omega arith))

    pub choices_fit : (given : Option Kind) (c label : ℕ) (a b : Target) (p : Option ℕ) (guard : ℕ) (first second : Step) → Stands (items es) c (form.Choice label a b) p
        → IsGivenAt c given → node_at (vertices es) (vertex_number es c) ≡ Some (node.Choice guard first second) → ChoiceFits types machine given guard first second
    choices_fit given c label a b p guard first second s is there =
        let x = choice_at es c label a b p s in
        let same : node.Choice guard first second ≡ choice_node es x.source.parent x.choice =
        one_some (node_at (vertices es) (vertex_number es c)) (node.Choice guard first second) (choice_node es x.source.parent x.choice) there
        (choice_node_there es c x.source x.choice x.here x.form) in
        let good = good_in c x.source (element.Choice x.choice) x.here x.form in
        let met = goto_uses es (outline es) numbers c x.source.parent x.choice.met in
        let unmet = goto_uses es (outline es) numbers c x.source.parent x.choice.unmet in
        let own = guard_use es (outline es) numbers c x.choice.guard ∷ [] in
        let front = each_before Good (own ++ met) unmet good in
        let tested = (each_before Good own met front).0 in
        let k = guard_there c x.choice.guard tested in
        record {
          guarded =
              ap (guard_is_given types machine given) (ap guard_in_node same ∙ ap (λ (o : Option ℕ). unwrap_or (option_map (guard_number es) o) 0) k.1)
              ∙ guard_fits given c x.choice.guard k.0 k.1 is tested;
          acts =
              ap (λ (s : Step). actions_are_given types machine given s.actions) (ap (met_in_node first) same)
              ∙ goto_fits given c x.source.parent x.choice.met is (each_behind Good own met front);
          acts_else =
              ap (λ (s : Step). actions_are_given types machine given s.actions) (ap (unmet_in_node second) same)
              ∙ goto_fits given c x.source.parent x.choice.unmet is (each_behind Good (own ++ met) unmet good);
        }
