-- What soundness asks of a state machine, sentence by sentence, and what is given of the elements that it comes from.
use Rattle.std.specs.Prelude.{◌≡◌, ℕ, Bool, true, ◌&&◌, is_some, List, Option, None, Some, length, slice_get}
use Rattle.std.specs.List.{list_all}
use Rattle.fp_base.specs.Least.{IsUnbroken}
use Rattle.fp_base.specs.declared.place.Place.{Place}
use Rattle.fp_tree.specs.declared.machine.BehaviorElement.{BehaviorElement}
use Rattle.fp_names.specs.Named.{elements_are_named}
use Rattle.fp_tables.specs.Lists.{all_from, if_some}
use Rattle.fp_tables.specs.Machines as machines
use Rattle.fp_tables.specs.Positions.{are_in_preorder, kind_lies, machine_lies}
use Rattle.fp_tables.specs.Sound.{machine_has_names}
use Rattle.fp_tables.specs.declared.kind.Kind.{Kind}
use Rattle.fp_tables.specs.declared.kind.TypeDef.{TypeDef}
use Rattle.fp_tables.specs.declared.machine.Machine.{Machine}
use Rattle.fp_tables.specs.declared.machine.Step.{Step}
use Rattle.fp_machine_rules.specs.Broken.{MachineBroken}
use Rattle.fp_machines.specs.Layout.{laid}
use Rattle.fp_machines.specs.Outline.{outline}
use Rattle.fp_machines.specs.Made.{kind_at}
use Rattle.fp_machines.specs.Numbers.{type_numbers}
use Rattle.fp_machines.specs.Ordered.{AreInOrder, declares}

-- the elements stand in their order, with declarations in the machine itself, and no rule of state machines is broken; the names are names, and
-- the kinds of what is declared, one for each element, are of types of the model
pub record IsUnbrokenBehavior (types : List TypeDef) (place : Place) (es : List BehaviorElement) (kinds : List (Option Kind)) : Type 0 where
  pub in_order : AreInOrder (outline es)
  pub declared_outside : (at : ℕ) (e : BehaviorElement) → slice_get es at ≡ Some e → declares e.form ≡ true → e.parent ≡ None
  pub unbroken : IsUnbroken (MachineBroken (laid place es (type_numbers types kinds)))
  pub named : elements_are_named es ≡ true
  pub kinds_each : length kinds ≡ length es
  pub kinds_lie : (at : ℕ) (k : Kind) → kind_at kinds at ≡ Some k → kind_lies (length types) k ≡ true

-- what is asked of each machine
pub record HasSoundOutline (types : List TypeDef) (m : Machine) : Type 0 where
  pub lies : machine_lies (length types) m ≡ true
  pub in_preorder : are_in_preorder m.vertices ≡ true
  pub has_names : machine_has_names m ≡ true
  pub names_differ : machines.machine_names_differ m ≡ true
  pub siblings_differ : machines.siblings_differ m.vertices ≡ true
  pub of_size : machines.is_machine_of_size m ≡ true
  pub leads : (if_some (λ (s : Step). is_some s.target) m.initial && list_all machines.leads_somewhere m.vertices) ≡ true

-- of one with a body
pub record HasSoundBody (types : List TypeDef) (m : Machine) : Type 0 where
  pub begins : is_some m.initial ≡ true
  pub states_begin : all_from (machines.has_its_initial m.vertices) 0 m.vertices ≡ true
  pub initials_stay : all_from (machines.stays_inside m.vertices) 0 m.vertices ≡ true
  pub signals_differ : list_all machines.signals_differ m.vertices ≡ true
  pub no_ring : machines.has_no_ring m.vertices ≡ true
  pub values_given : (if_some (machines.step_is_given types m None) m.initial && list_all (machines.vertex_is_given types m) m.vertices) ≡ true
