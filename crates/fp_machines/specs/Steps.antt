-- The elements of a machine with where their steps go. FPP Language Specification, "State Machine Behavior Elements".
use Rattle.std.specs.Prelude.{ℕ, List, map, Option, Some, None}
use Rattle.fp_tree.specs.declared.name.Qual.{Qual}
use Rattle.fp_tree.specs.declared.machine.Choice.{Choice}
use Rattle.fp_tree.specs.declared.machine.OnSignal.{OnSignal}
use Rattle.fp_tree.specs.declared.machine.Transition.{Transition}
use Rattle.fp_tree.specs.declared.machine.Transition.TheVariants as way
use Rattle.fp_tree.specs.declared.machine.ElementForm.{ElementForm}
use Rattle.fp_tree.specs.declared.machine.ElementForm.TheVariants as element
use Rattle.fp_tree.specs.declared.machine.BehaviorElement.{BehaviorElement}
use Rattle.fp_machine_rules.specs.declared.item.Target.{Target}
use Rattle.fp_machine_rules.specs.declared.item.Target.TheVariants.{Stays, Undefined, To}
use Rattle.fp_machine_rules.specs.declared.item.Form.{Form}
use Rattle.fp_machine_rules.specs.declared.item.Form.TheVariants as form
use Rattle.fp_machine_rules.specs.declared.item.Item.{Item}
use Rattle.fp_machines.specs.Outline.{own_number, outlined, place_in}
use Rattle.fp_machines.specs.Scopes.{vertex_meant, signal_meant}

abbrev pub to_vertex : Option ℕ → Target
to_vertex None = Undefined
to_vertex (Some v) = To v

-- over the elements and their outlines
module _ (es : List BehaviorElement) (items : List Item) where
  abbrev pub target_of : Option ℕ → Qual → Target
  target_of p q = to_vertex (vertex_meant es items p q.names)

  abbrev pub way_target : Option ℕ → Transition → Target
  way_target p (way.Goto g) = target_of p g.target
  way_target p (way.Do d) = Stays

  abbrev pub choice_form : Option ℕ → Choice → Form
  choice_form p c = form.Choice (own_number es c.name.text) (target_of p c.met.target) (target_of p c.unmet.target)

  abbrev pub on_form : Option ℕ → OnSignal → Form
  on_form p o = form.On (own_number es o.signal.text) (signal_meant items (own_number es o.signal.text)) (way_target p o.transition)

  abbrev pub laid_form : Option ℕ → ElementForm → Form
  laid_form p (element.Choice c) = choice_form p c
  laid_form p (element.Initial g) = form.Initial (target_of p g.target)
  laid_form p (element.On o) = on_form p o
  laid_form p f = outlined es f

  abbrev pub laid_item : BehaviorElement → Item
  laid_item e = record { form = laid_form e.parent e.form; parent = e.parent; place = place_in e.at e.form }

  abbrev pub laid_items : List Item
  laid_items = map laid_item es
