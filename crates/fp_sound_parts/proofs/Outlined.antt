-- The outline of a machine whose elements break no rule is sound.
use Rattle.std.proofs.Common.{◌≡◌, ℕ, ◌&&◌, ◌||◌, true, List, map, Option, None, is_some, refl, ap, inl, inr}
use Rattle.std.specs.List.{list_all}
use Rattle.fp_base.proofs.Bools.{join, or_left, or_right}
use Rattle.fp_base.specs.declared.place.Place.{Place}
use Rattle.fp_base.specs.declared.rule.Rule.TheVariants.{MachineNameRepeated}
use Rattle.fp_base.specs.Least.{IsUnbroken, broken_at}
use Rattle.fp_tree.specs.declared.machine.BehaviorElement.{BehaviorElement}
use Rattle.fp_tree.specs.declared.machine.ElementForm.{ElementForm}
use Rattle.fp_tree.specs.declared.machine.TypedName.{TypedName}
use Rattle.fp_tables.specs.Lists.{if_some}
use Rattle.fp_tables.specs.Machines.{leads_somewhere, machine_names_differ}
use Rattle.fp_tables.specs.Names.{texts_differ}
use Rattle.fp_tables.specs.declared.kind.Kind.{Kind}
use Rattle.fp_tables.specs.declared.kind.TypeDef.{TypeDef}
use Rattle.fp_tables.specs.declared.machine.Named.{Named}
use Rattle.fp_tables.specs.declared.machine.Step.{Step}
use Rattle.fp_machine_rules.specs.Broken.{MachineBroken}
use Rattle.fp_machine_rules.specs.Repeated.{declared_action, declared_guard, declared_signal, name_of}
use Rattle.fp_machines.specs.Layout.{laid}
use Rattle.fp_machines.specs.Outline.{outline}
use Rattle.fp_machines.specs.Steps.{laid_form}
use Rattle.fp_machines.specs.Made.{action_in, declared_from, guard_in, initial_of, is_action, is_guard, is_signal, machine_with, signal_in, vertices_from}
use Rattle.fp_machines.specs.Numbers.{type_numbers}
use Rattle.fp_sound_parts.specs.Sound.{HasSoundOutline, IsUnbrokenBehavior}
use Rattle.fp_sound_parts.proofs.Declaring.{action_form, action_same, guard_form, guard_same, signal_form, signal_same}
use Rattle.fp_sound_parts.proofs.Differing.{AreOutside, IsSpelledBy, NeverTwice, declared_differ, vertices_differ}
use Rattle.fp_sound_parts.proofs.Known.{each_known}
use Rattle.fp_sound_parts.proofs.Leading.{each_initial_leads, vertices_lead}
use Rattle.fp_sound_parts.proofs.BehaviorLying.{positions_lie}
use Rattle.fp_sound_parts.proofs.Naming.{names_are_names}
use Rattle.fp_sound_parts.proofs.Preorder.{vertices_in_preorder}
use Rattle.fp_sound_parts.proofs.Sizes.{machine_of_size}

-- ---- nothing stands a second time

module _ (place : Place) (es : List BehaviorElement) (types : List (Option ℕ)) (unbroken : IsUnbroken (MachineBroken (laid place es types))) where
  names_once : NeverTwice es name_of
  names_once k x h r = unbroken (broken_at MachineNameRepeated x.place) (inr (inl (inr (inl (inr (inl (k, x, h, (refl, r))))))))

  signals_once : NeverTwice es declared_signal
  signals_once k x h r = unbroken (broken_at MachineNameRepeated x.place) (inr (inl (inr (inr (inl (k, x, h, (refl, r)))))))

  actions_once : NeverTwice es declared_action
  actions_once k x h r = unbroken (broken_at MachineNameRepeated x.place) (inr (inl (inr (inr (inr (inl (k, x, h, (refl, r))))))))

  guards_once : NeverTwice es declared_guard
  guards_once k x h r = unbroken (broken_at MachineNameRepeated x.place) (inr (inl (inr (inr (inr (inr (k, x, h, (refl, r))))))))

-- ---- names

module _ (es : List BehaviorElement) where
  signal_spelled : IsSpelledBy es signal_in is_signal signal_same declared_signal
  signal_spelled p f t e = ap (λ (g : ElementForm). declared_signal (laid_form es (outline es) p g)) (signal_form f t e)

  action_spelled : IsSpelledBy es action_in is_action action_same declared_action
  action_spelled p f t e = ap (λ (g : ElementForm). declared_action (laid_form es (outline es) p g)) (action_form f t e)

  guard_spelled : IsSpelledBy es guard_in is_guard guard_same declared_guard
  guard_spelled p f t e = ap (λ (g : ElementForm). declared_guard (laid_form es (outline es) p g)) (guard_form f t e)

module _ (types : List TypeDef) (place : Place) (es : List BehaviorElement) (kinds : List (Option Kind)) (u : IsUnbrokenBehavior types place es kinds) where
  signals_outside : AreOutside es signal_in is_signal signal_same declared_signal
  signals_outside v e h t = u.declared_outside v e h (or_left (is_signal e.form || is_action e.form) (is_guard e.form) (or_left (is_signal e.form) (is_action e.form) t))

  actions_outside : AreOutside es action_in is_action action_same declared_action
  actions_outside v e h t = u.declared_outside v e h (or_left (is_signal e.form || is_action e.form) (is_guard e.form) (or_right (is_signal e.form) (is_action e.form) t))

  guards_outside : AreOutside es guard_in is_guard guard_same declared_guard
  guards_outside v e h t = u.declared_outside v e h (or_right (is_signal e.form || is_action e.form) (is_guard e.form) t)

  abbrev names_of : (ElementForm → Option TypedName) → List (List ℕ)
  names_of part = map (λ (x : Named). x.name) (declared_from part kinds 0 es)

  names_apart : (name : List ℕ) → machine_names_differ (machine_with es name kinds) ≡ true
  names_apart name =
      join (texts_differ (names_of signal_in) && texts_differ (names_of action_in)) (texts_differ (names_of guard_in))
      (join (texts_differ (names_of signal_in)) (texts_differ (names_of action_in))
      (declared_differ es signal_in is_signal signal_same declared_signal (signal_spelled es) signals_outside (signals_once place es (type_numbers types kinds) u.unbroken) kinds)
      (declared_differ es action_in is_action action_same declared_action (action_spelled es) actions_outside (actions_once place es (type_numbers types kinds) u.unbroken) kinds))
      (declared_differ es guard_in is_guard guard_same declared_guard (guard_spelled es) guards_outside (guards_once place es (type_numbers types kinds) u.unbroken) kinds)

  pub outline_is_sound : (name : List ℕ) → HasSoundOutline types (machine_with es name kinds)
  outline_is_sound name =
      let known = each_known es (type_numbers types kinds) place u.unbroken in
      record {
        lies = positions_lie es name kinds u.in_order known _ u.kinds_lie;
        in_preorder = vertices_in_preorder es u.in_order;
        has_names = names_are_names es u.named name kinds;
        names_differ = names_apart name;
        siblings_differ = vertices_differ es u.in_order (names_once place es (type_numbers types kinds) u.unbroken);
        of_size = machine_of_size place es (type_numbers types kinds) u.in_order u.unbroken name kinds;
        leads = join (if_some (λ (s : Step). is_some s.target) (initial_of es None)) (list_all leads_somewhere (vertices_from es 0 es)) (each_initial_leads es known None) (vertices_lead es known);
      }
