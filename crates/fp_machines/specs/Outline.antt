-- What the elements of a machine are by themselves, before any name in them is looked up. FPP Language Specification, "State Machine Behavior
-- Elements".
use Rattle.std.specs.Prelude.{ℕ, Bool, false, List, map, position, unwrap_or, Option, Some, None}
use Rattle.std.specs.Str.{bytes_eq}
use Rattle.fp_base.specs.declared.place.Place.{Place}
use Rattle.fp_base.specs.declared.place.Span.{Span}
use Rattle.fp_tree.specs.declared.machine.ElementForm.{ElementForm}
use Rattle.fp_tree.specs.declared.machine.ElementForm.TheVariants as element
use Rattle.fp_tree.specs.declared.machine.BehaviorElement.{BehaviorElement}
use Rattle.fp_machine_rules.specs.declared.item.Declaration.TheVariants as declaration
use Rattle.fp_machine_rules.specs.declared.item.Form.{Form}
use Rattle.fp_machine_rules.specs.declared.item.Form.TheVariants as form
use Rattle.fp_machine_rules.specs.declared.item.Target.TheVariants.{Stays}
use Rattle.fp_machine_rules.specs.declared.item.Item.{Item}

-- the name that an element has, or that it is about: of a transition its signal's
abbrev pub name_of : ElementForm → Option (List ℕ)
name_of (element.State n) = Some n.text
name_of (element.Choice c) = Some c.name.text
name_of (element.Initial g) = None
name_of (element.Signal t) = Some t.name.text
name_of (element.Action t) = Some t.name.text
name_of (element.Guard t) = Some t.name.text
name_of (element.On o) = Some o.signal.text
name_of (element.Entry d) = None
name_of (element.Exit d) = None

abbrev pub is_text : List ℕ → Option (List ℕ) → Bool
is_text t None = false
is_text t (Some s) = bytes_eq s t

abbrev pub is_spelled : List ℕ → BehaviorElement → Bool
is_spelled t e = is_text t (name_of e.form)

-- a spelling's number is the position of the first element that has it
abbrev pub number : List BehaviorElement → List ℕ → Option ℕ
number es t = position (is_spelled t) es

-- of a spelling that some element has
abbrev pub own_number : List BehaviorElement → List ℕ → ℕ
own_number es t = unwrap_or (number es t) 0

-- where steps go and what a signal means isn't known yet
abbrev pub outlined : List BehaviorElement → ElementForm → Form
outlined es (element.State n) = form.State (own_number es n.text)
outlined es (element.Choice c) = form.Choice (own_number es c.name.text) Stays Stays
outlined es (element.Initial g) = form.Initial Stays
outlined es (element.Signal t) = form.Declares (declaration.Signal (own_number es t.name.text))
outlined es (element.Action t) = form.Declares (declaration.Action (own_number es t.name.text))
outlined es (element.Guard t) = form.Declares (declaration.Guard (own_number es t.name.text))
outlined es (element.On o) = form.On (own_number es o.signal.text) None Stays
outlined es (element.Entry d) = form.Entry
outlined es (element.Exit d) = form.Exit

-- what has a name stands at it, the others at their first byte
abbrev pub place_in : Span → ElementForm → Place
place_in at (element.State n) = n.at.first
place_in at (element.Choice c) = c.name.at.first
place_in at (element.Initial g) = at.first
place_in at (element.Signal t) = t.name.at.first
place_in at (element.Action t) = t.name.at.first
place_in at (element.Guard t) = t.name.at.first
place_in at (element.On o) = at.first
place_in at (element.Entry d) = at.first
place_in at (element.Exit d) = at.first

abbrev pub outline_of : List BehaviorElement → BehaviorElement → Item
outline_of es e = record { form = outlined es e.form; parent = e.parent; place = place_in e.at e.form }

abbrev pub outline : List BehaviorElement → List Item
outline es = map (outline_of es) es
