-- The names that stand in state machines, in source order. FPP Language Specification, "State Machine Definitions" and "State Machine
-- Behavior Elements".
use Rattle.std.specs.Prelude.{List, [], ◌∷◌, ◌++◌, flat_map}
use Rattle.fp_tree.specs.declared.name.Name.{Name}
use Rattle.fp_tree.specs.declared.machine.Do.{Do}
use Rattle.fp_tree.specs.declared.machine.Goto.{Goto}
use Rattle.fp_tree.specs.declared.machine.Transition.{Transition}
use Rattle.fp_tree.specs.declared.machine.Transition.TheVariants as way
use Rattle.fp_tree.specs.declared.machine.TypedName.{TypedName}
use Rattle.fp_tree.specs.declared.machine.ElementForm.{ElementForm}
use Rattle.fp_tree.specs.declared.machine.ElementForm.TheVariants as form
use Rattle.fp_tree.specs.declared.machine.BehaviorElement.{BehaviorElement}
use Rattle.fp_tree.specs.declared.machine.Behavior.{Behavior}
use Rattle.fp_tree.specs.declared.machine.Machine.{Machine}
use Rattle.fp_meaning.specs.Names.{in_optional}
use Rattle.fp_places.specs.Parts.{names_in_type}

abbrev pub names_in_do : Do → List Name
names_in_do d = flat_map (λ action. action.name ∷ []) d.actions

abbrev pub names_in_goto : Goto → List Name
names_in_goto g = in_optional names_in_do g.actions ++ g.target.names

abbrev pub names_in_transition : Transition → List Name
names_in_transition (way.Goto g) = names_in_goto g
names_in_transition (way.Do d) = names_in_do d

abbrev pub names_in_typed : TypedName → List Name
names_in_typed t = t.name ∷ in_optional names_in_type t.of

abbrev pub names_in_element_form : ElementForm → List Name
names_in_element_form (form.State n) = n ∷ []
names_in_element_form (form.Choice c) = c.name ∷ (c.guard ∷ (names_in_goto c.met ++ names_in_goto c.unmet))
names_in_element_form (form.Initial g) = names_in_goto g
names_in_element_form (form.Signal t) = names_in_typed t
names_in_element_form (form.Action t) = names_in_typed t
names_in_element_form (form.Guard t) = names_in_typed t
names_in_element_form (form.On o) = o.signal ∷ (in_optional (λ guard. guard ∷ []) o.guard ++ names_in_transition o.transition)
names_in_element_form (form.Entry d) = names_in_do d
names_in_element_form (form.Exit d) = names_in_do d

abbrev pub names_in_element : BehaviorElement → List Name
names_in_element e = names_in_element_form e.form

abbrev pub names_in_behavior : Behavior → List Name
names_in_behavior b = flat_map names_in_element b.elements

abbrev pub names_in_machine : Machine → List Name
names_in_machine m = m.name ∷ in_optional names_in_behavior m.behavior
