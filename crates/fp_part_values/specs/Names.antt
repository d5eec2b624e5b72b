-- The type names in what belongs to a definition, in source order. FPP Language Specification, "Internal Port Specifiers", "Command
-- Specifiers", "Event Specifiers", "Telemetry Channel Specifiers", "Parameter Specifiers", "State Machine Behavior Elements".
use Rattle.std.specs.Prelude.{List, [], ◌∷◌, map, flat_map, Option}
use Rattle.fp_tree.specs.declared.type_name.TypeName.{TypeName}
use Rattle.fp_tree.specs.declared.part.Formal.{Formal}
use Rattle.fp_tree.specs.declared.component.Part.{Part}
use Rattle.fp_tree.specs.declared.component.Part.TheVariants as part
use Rattle.fp_tree.specs.declared.machine.Behavior.{Behavior}
use Rattle.fp_tree.specs.declared.machine.BehaviorElement.{BehaviorElement}
use Rattle.fp_tree.specs.declared.machine.ElementForm.{ElementForm}
use Rattle.fp_tree.specs.declared.machine.ElementForm.TheVariants as element
use Rattle.fp_meaning.specs.Sites.{in_optional, ModelDef, machine, component, interface, instance, topology}

-- what is written, where it may be left out
abbrev pub written : {A : Type 0} → Option A → List A
written o = in_optional (λ x. x ∷ []) o

abbrev pub formal_names : List Formal → List TypeName
formal_names fs = map (λ (f : Formal). f.of) fs

-- in a part of a component: definitions in it have names of their own
abbrev pub part_names : Part → List TypeName
part_names (part.Internal p) = formal_names p.formals
part_names (part.Command c) = formal_names c.formals
part_names (part.Event e) = formal_names e.formals
part_names (part.Channel t) = t.of ∷ []
part_names (part.Param p) = p.of ∷ []
part_names _ = []

abbrev pub form_names : ElementForm → List TypeName
form_names (element.Signal t) = written t.of
form_names (element.Action t) = written t.of
form_names (element.Guard t) = written t.of
form_names _ = []

abbrev pub element_names : BehaviorElement → List TypeName
element_names e = form_names e.form

abbrev pub behavior_names : Behavior → List TypeName
behavior_names b = flat_map element_names b.elements

abbrev pub type_names_of : ModelDef → List TypeName
type_names_of (machine d) = in_optional behavior_names d.behavior
type_names_of (component d) = flat_map part_names d.parts
type_names_of (interface d) = []
type_names_of (instance d) = []
type_names_of (topology d) = []
