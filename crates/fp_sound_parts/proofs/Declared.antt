-- What is declared stands in its list with its kind.
use Rattle.std.proofs.Common.{◌≡◌, ℕ, List, Option, Some, refl, ap}
use Rattle.std.specs.Option.{option_and_then}
use Rattle.fp_tree.specs.declared.machine.BehaviorElement.{BehaviorElement}
use Rattle.fp_tree.specs.declared.name.Name.{Name}
use Rattle.fp_tables.specs.Machines.{kind_of_signal}
use Rattle.fp_tables.specs.declared.kind.Kind.{Kind}
use Rattle.fp_tables.specs.declared.kind.TypeDef.{TypeDef}
use Rattle.fp_tables.specs.declared.machine.Named.{Named}
use Rattle.fp_machines.specs.Outline.{outline}
use Rattle.fp_machines.specs.Scopes.{action_named, guard_named, signal_named}
use Rattle.fp_machines.specs.Made.{action_in, action_number, declared_from, guard_in, guard_number, is_action, is_guard, is_signal, kind_at, machine_with, named, signal_in, signal_number}
use Rattle.fp_sound_parts.proofs.Declaring.{action_same, guard_same, signal_same}
use Rattle.fp_sound_parts.proofs.Meant.{action_is, guard_is, signal_is}
use Rattle.fp_sound_parts.proofs.Uses.{IsDeclared}
use Rattle.fp_sound_parts.proofs.Vertices.{declared_here}

module _ (es : List BehaviorElement) (kinds : List (Option Kind)) where
  pub action_declared : (a : Name) (k : ℕ) → action_named es (outline es) a ≡ Some k → IsDeclared (declared_from action_in kinds 0 es) (action_number es k) (kind_at kinds k)
  action_declared a k h =
      let d = action_is es a k h in
      record { named = named (kind_at kinds k) d.of; here = declared_here action_in is_action action_same kinds es k d.element d.of d.here d.has; kind = refl }

  pub guard_declared : (g : Name) (k : ℕ) → guard_named es (outline es) g ≡ Some k → IsDeclared (declared_from guard_in kinds 0 es) (guard_number es k) (kind_at kinds k)
  guard_declared g k h =
      let d = guard_is es g k h in
      record { named = named (kind_at kinds k) d.of; here = declared_here guard_in is_guard guard_same kinds es k d.element d.of d.here d.has; kind = refl }

  -- the kind of a signal's value is the one that it is declared with
  pub signal_kind : (types : List TypeDef) (name : List ℕ) (s : Name) (k : ℕ) → signal_named es (outline es) s ≡ Some k
      → kind_of_signal types (machine_with es name kinds) (signal_number es k) ≡ kind_at kinds k
  signal_kind types name s k h =
      let d = signal_is es s k h in
      ap (λ (o : Option Named). option_and_then (λ (x : Named). x.kind) o) (declared_here signal_in is_signal signal_same kinds es k d.element d.of d.here d.has)
