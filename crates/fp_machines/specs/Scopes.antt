-- What names in a machine mean. FPP Language Specification, "State Machine Definitions" and "Scoping of Names".
use Rattle.std.specs.Prelude.{ℕ, zero, suc, ◌+◌, List, [], ◌∷◌, map, length, position, Option, Some, None, option_and_then}
use Rattle.std.specs.Option.{option_cmp}
use Rattle.fp_tree.specs.declared.name.Name.{Name}
use Rattle.fp_tree.specs.declared.machine.BehaviorElement.{BehaviorElement}
use Rattle.fp_machine_rules.specs.declared.item.Form.{Form}
use Rattle.fp_machine_rules.specs.declared.item.Item.{Item}
use Rattle.fp_machine_rules.specs.Leaving.{parent_at}
use Rattle.fp_machine_rules.specs.Repeated.{key_by, is_key, name_of, declared_signal, declared_action, declared_guard}
use Rattle.fp_machines.specs.Outline.{number}

-- the first item in a state, or in the machine, that has this number for its name
abbrev pub first_in : (Form → Option ℕ) → List Item → Option ℕ → ℕ → Option ℕ
first_in part items p n = position (is_key (p, n)) (map (key_by part) items)

-- the first state or choice of this name in a state, or in the machine
abbrev pub child : List Item → Option ℕ → ℕ → Option ℕ
child = first_in name_of

-- signals, actions and guards are declared in the machine itself
abbrev pub signal_meant : List Item → ℕ → Option ℕ
signal_meant items n = first_in declared_signal items None n

abbrev pub action_meant : List Item → ℕ → Option ℕ
action_meant items n = first_in declared_action items None n

abbrev pub guard_meant : List Item → ℕ → Option ℕ
guard_meant items n = first_in declared_guard items None n

-- what is found in one scope, or else by going on from the state round it
abbrev pub or_beyond : (ℕ → Option ℕ) → Option ℕ → Option ℕ → Option ℕ
or_beyond beyond (Some v) p = Some v
or_beyond beyond None None = None
or_beyond beyond None (Some state) = beyond state

-- from the innermost state outward, through at most so many states
unfoldable pub outward : List Item → ℕ → Option ℕ → ℕ → Option ℕ
outward items zero p n = None
outward items (suc k) p n = or_beyond (λ state. outward items k (parent_at items state) n) (child items p n) p

module _ (es : List BehaviorElement) (items : List Item) where
  -- a name directly in a state
  abbrev pub entered : ℕ → Name → Option ℕ
  entered v name = option_and_then (child items (Some v)) (number es name.text)

  -- names, each in what the one before it means
  abbrev pub inward : List Name → ℕ → Option ℕ
  inward [] v = Some v
  inward (name ∷ more) v = option_and_then (inward more) (entered v name)

  -- the first name is looked up outward, the others inside
  abbrev pub begun : Option ℕ → Name → Option ℕ
  begun p name = option_and_then (outward items (length items + 1) p) (number es name.text)

  -- the state or choice that a use in a state, or in the machine, means
  abbrev pub vertex_meant : Option ℕ → List Name → Option ℕ
  vertex_meant p [] = None
  vertex_meant p (name ∷ more) = option_and_then (inward more) (begun p name)

  abbrev pub action_named : Name → Option ℕ
  action_named name = option_and_then (action_meant items) (number es name.text)

  abbrev pub guard_named : Name → Option ℕ
  guard_named name = option_and_then (guard_meant items) (number es name.text)

  abbrev pub signal_named : Name → Option ℕ
  signal_named name = option_and_then (signal_meant items) (number es name.text)
