-- Whether all places in a machine stand behind another, that of its name.
use Rattle.std.specs.Prelude.{Bool, true, ◌&&◌, ◌||◌, ◌==◌, nat_lt, List, Option, Some, None}
use Rattle.std.specs.List.{list_all}
use Rattle.fp_base.specs.declared.place.Place.{Place}
use Rattle.fp_tree.specs.declared.name.Name.{Name}
use Rattle.fp_tree.specs.declared.machine.ActionUse.{ActionUse}
use Rattle.fp_tree.specs.declared.machine.BehaviorElement.{BehaviorElement}
use Rattle.fp_tree.specs.declared.machine.Choice.{Choice}
use Rattle.fp_tree.specs.declared.machine.Do.{Do}
use Rattle.fp_tree.specs.declared.machine.ElementForm.{ElementForm}
use Rattle.fp_tree.specs.declared.machine.ElementForm.TheVariants as element
use Rattle.fp_tree.specs.declared.machine.Goto.{Goto}
use Rattle.fp_tree.specs.declared.machine.OnSignal.{OnSignal}
use Rattle.fp_tree.specs.declared.machine.Transition.{Transition}
use Rattle.fp_tree.specs.declared.machine.Transition.TheVariants as way
use Rattle.fp_machines.specs.Outline.{place_in}

-- by file, line and column
abbrev pub is_before : Place → Place → Bool
is_before p q = nat_lt p.file q.file || ((p.file == q.file) && (nat_lt p.line q.line || ((p.line == q.line) && nat_lt p.column q.column)))

module _ (p : Place) where
  abbrev pub actions_behind : Do → Bool
  actions_behind d = list_all (λ (a : ActionUse). is_before p a.name.at.first) d.actions

  abbrev pub actions_if_behind : Option Do → Bool
  actions_if_behind None = true
  actions_if_behind (Some d) = actions_behind d

  abbrev pub goto_behind : Goto → Bool
  goto_behind g = actions_if_behind g.actions && is_before p g.target.at.first

  abbrev pub way_behind : Transition → Bool
  way_behind (way.Goto g) = goto_behind g
  way_behind (way.Do d) = actions_behind d

  abbrev pub guard_if_behind : Option Name → Bool
  guard_if_behind None = true
  guard_if_behind (Some g) = is_before p g.at.first

  abbrev pub choice_behind : Choice → Bool
  choice_behind c = is_before p c.guard.at.first && goto_behind c.met && goto_behind c.unmet

  abbrev pub on_behind : OnSignal → Bool
  on_behind o = is_before p o.signal.at.first && guard_if_behind o.guard && way_behind o.transition

  -- the places of the names that are used in it
  abbrev pub form_behind : ElementForm → Bool
  form_behind (element.Choice c) = choice_behind c
  form_behind (element.Initial g) = goto_behind g
  form_behind (element.On o) = on_behind o
  form_behind (element.Entry d) = actions_behind d
  form_behind (element.Exit d) = actions_behind d
  form_behind _ = true

  abbrev pub element_behind : BehaviorElement → Bool
  element_behind e = is_before p (place_in e.at e.form) && form_behind e.form

  abbrev pub elements_behind : List BehaviorElement → Bool
  elements_behind es = list_all element_behind es
