-- A machine laid out flat: each element with what its names mean. FPP Language Specification, "State Machine Behavior Elements".
use Rattle.std.specs.Prelude.{ℕ, ◌+◌, List, [], ◌∷◌, ◌++◌, map, slice_get, option_and_then, Option, Some, None}
use Rattle.fp_base.specs.declared.place.Place.{Place}
use Rattle.fp_tree.specs.declared.name.Name.{Name}
use Rattle.fp_tree.specs.declared.name.Qual.{Qual}
use Rattle.fp_tree.specs.declared.machine.Do.{Do}
use Rattle.fp_tree.specs.declared.machine.Goto.{Goto}
use Rattle.fp_tree.specs.declared.machine.ActionUse.{ActionUse}
use Rattle.fp_tree.specs.declared.machine.Choice.{Choice}
use Rattle.fp_tree.specs.declared.machine.OnSignal.{OnSignal}
use Rattle.fp_tree.specs.declared.machine.Transition.{Transition}
use Rattle.fp_tree.specs.declared.machine.Transition.TheVariants as way
use Rattle.fp_tree.specs.declared.machine.ElementForm.{ElementForm}
use Rattle.fp_tree.specs.declared.machine.ElementForm.TheVariants as element
use Rattle.fp_tree.specs.declared.machine.BehaviorElement.{BehaviorElement}
use Rattle.fp_machine_rules.specs.declared.item.Meaning.{Meaning}
use Rattle.fp_machine_rules.specs.declared.item.Meaning.TheVariants.{Nothing, Plain, Typed}
use Rattle.fp_machine_rules.specs.declared.item.Item.{Item}
use Rattle.fp_machine_rules.specs.declared.item.Use.{Use}
use Rattle.fp_machine_rules.specs.declared.item.LaidMachine.{LaidMachine}
use Rattle.fp_machines.specs.Outline.{outline}
use Rattle.fp_machines.specs.Scopes.{vertex_meant, signal_named, action_named, guard_named}
use Rattle.fp_machines.specs.Steps.{laid_items}

abbrev pub of_type : Option ℕ → Meaning
of_type None = Plain
of_type (Some t) = Typed t

-- what is there, without a value
abbrev pub plainly : Option ℕ → Meaning
plainly None = Nothing
plainly (Some k) = Plain

-- what a declaration takes, where there is one
abbrev pub takes : List (Option ℕ) → Option ℕ → Meaning
takes types None = Nothing
takes types (Some k) = of_type (option_and_then (λ (o : Option ℕ). o) (slice_get types k))

abbrev pub used_as : Meaning → Place → ℕ → Use
used_as m place at = record { item = at; means = m; place = place }

-- over the elements and their outlines
module _ (es : List BehaviorElement) (items : List Item) where
  abbrev pub signal_use : ℕ → Name → Use
  signal_use at s = used_as (plainly (signal_named es items s)) s.at.first at

  abbrev pub target_use : ℕ → Option ℕ → Qual → Use
  target_use at p q = used_as (plainly (vertex_meant es items p q.names)) q.at.first at

-- and for each the number of the type of the value that it declares
module _ (es : List BehaviorElement) (items : List Item) (types : List (Option ℕ)) where
  abbrev pub action_use : ℕ → ActionUse → Use
  action_use at a = used_as (takes types (action_named es items a.name)) a.name.at.first at

  abbrev pub guard_use : ℕ → Name → Use
  guard_use at g = used_as (takes types (guard_named es items g)) g.at.first at

  abbrev pub action_uses : ℕ → Do → List Use
  action_uses at d = map (action_use at) d.actions

  abbrev pub action_uses_if : ℕ → Option Do → List Use
  action_uses_if at None = []
  action_uses_if at (Some d) = action_uses at d

  abbrev pub goto_uses : ℕ → Option ℕ → Goto → List Use
  goto_uses at p g = action_uses_if at g.actions ++ (target_use es items at p g.target ∷ [])

  abbrev pub guard_uses_if : ℕ → Option Name → List Use
  guard_uses_if at None = []
  guard_uses_if at (Some g) = guard_use at g ∷ []

  abbrev pub way_uses : ℕ → Option ℕ → Transition → List Use
  way_uses at p (way.Goto g) = goto_uses at p g
  way_uses at p (way.Do d) = action_uses at d

  abbrev pub choice_uses : ℕ → Option ℕ → Choice → List Use
  choice_uses at p c = (guard_use at c.guard ∷ []) ++ goto_uses at p c.met ++ goto_uses at p c.unmet

  abbrev pub on_uses : ℕ → Option ℕ → OnSignal → List Use
  on_uses at p o = (signal_use es items at o.signal ∷ []) ++ guard_uses_if at o.guard ++ way_uses at p o.transition

  -- in an element at a position, in a state or in the machine
  abbrev pub uses_in : ℕ → Option ℕ → ElementForm → List Use
  uses_in at p (element.Choice c) = choice_uses at p c
  uses_in at p (element.Initial g) = goto_uses at p g
  uses_in at p (element.On o) = on_uses at p o
  uses_in at p (element.Entry d) = action_uses at d
  uses_in at p (element.Exit d) = action_uses at d
  uses_in at p _ = []

  abbrev pub uses_from : ℕ → List BehaviorElement → List Use
  uses_from at [] = []
  uses_from at (e ∷ more) = uses_in at e.parent e.form ++ uses_from (at + 1) more

-- the machine whose name stands at a place, laid out
abbrev pub laid : Place → List BehaviorElement → List (Option ℕ) → LaidMachine
laid place es types = record { place = place; items = laid_items es (outline es); types = types; uses = uses_from es (outline es) types 0 es }
